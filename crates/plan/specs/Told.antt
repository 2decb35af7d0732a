-- Lists of windows: what they tell of a sheet and the starts placed on it. Assumes nothing.
use Rattle.std.specs.Prelude.{◌≡◌, ℕ, ◌+◌, ◌<◌, false, List, length, ℤ, pos, ◌+ℤ◌, ◌-ℤ◌, ◌≤ℤ◌, Some, None, Option, slice_index_or}
use Rattle.std.specs.Int.{int_max, int_min}
use Rattle.plan.specs.declared.window.Window.{Window}
use Rattle.sheet.specs.Limits.{Sound}
use Rattle.sheet.specs.Sheets.{RuleSheet, has_step, HasStep, numbered}
use Rattle.sheet.specs.Timetables.{Timetable}
use Rattle.sheet.specs.Waits.{IsChart}
use Rattle.windows.specs.Windows.{entry, with_start, IsWindow, Waiting}

-- Of step n, given the starts placed: its window, or none if it is absent.
abbrev pub Tells : RuleSheet → Timetable → ℕ → Option Window → Type 0
Tells s placed n None = has_step s n ≡ false
Tells s placed n (Some w) = HasStep s n × IsWindow s placed n w.first w.last

-- The windows of all steps, given the starts placed: step 1 stands at place 0.
pub record Told (s : RuleSheet) (placed : Timetable) (windows : List (Option Window)) : Type 0 where
  pub long : length windows ≡ 31
  pub each : (i : ℕ) → i < 31 → Tells s placed (i + 1) (slice_index_or windows i None)

-- The window of step m after step n was placed at an hour: step m starts no sooner after step n than the wait from n to
-- m, and no later than the wait from m to n leaves time for.
abbrev pub narrowed : List ℤ → (n hour m : ℕ) → Window → Window
narrowed chart n hour m w =
    record { first = int_max w.first (pos hour +ℤ entry chart n m); last = int_min w.last (pos hour -ℤ entry chart m n) }

-- An hour lies in the window of step n.
abbrev pub Within : List (Option Window) → ℕ → ℤ → Type 0
Within windows n hour = (w : Window) → numbered None windows n ≡ Some w → (w.first ≤ℤ hour) × (hour ≤ℤ w.last)

-- Whatever sheet the chart belongs to, and whatever starts are placed on it: from the windows before step n is placed at
-- an hour of its window come the windows after it is placed.
abbrev pub Narrows : List ℤ → ℕ → ℕ → List (Option Window) → List (Option Window) → Type 0
Narrows chart n hour before after =
    (s : RuleSheet) → Sound s → IsChart s chart → (placed : Timetable) → Told s placed before
    → Waiting s placed n → Within before n (pos hour) → Told s (with_start placed n (pos hour)) after
