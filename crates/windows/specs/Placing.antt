-- Placing steps one by one. Assumes nothing.
use Rattle.std.specs.Prelude.{◌≡◌, ℕ, List, replicate, ℤ, pos, Some, None, Option}
use Rattle.std.specs.Option.{option_map}
use Rattle.choose.specs.Choosing.{HourRule}
use Rattle.choose.specs.Views.{View}
use Rattle.sheet.specs.Edits.{replaced}
use Rattle.sheet.specs.Sheets.{RuleSheet, numbered, step_at}
use Rattle.sheet.specs.Timetables.{Timetable}
use Rattle.vessels.specs.declared.placed.Placed.{Placed}
use Rattle.windows.specs.Crowds.{crowds}
use Rattle.windows.specs.Windows.{IsWindow, IsNext, Waiting}

-- The start of a step, if it is placed.
abbrev pub start_of : Option Placed → Option ℤ
start_of step = option_map (λ step. pos step.start) step

-- The starts placed, as a timetable, where a list has a place for step 1, step 2 and so on.
abbrev pub starts : List (Option Placed) → Timetable
starts placed n = start_of (numbered None placed n)

-- What the chooser is shown of a step: its number, its duration, the first and the last hour of its window, and for each
-- class how many placed steps of its kind cover it.
abbrev pub view_of : RuleSheet → List (Option Placed) → (n duration kind first last : ℕ) → View
view_of s placed n duration kind first last =
    record { step = n; duration = duration; first = first; last = last; crowd = crowds s.period kind placed }

-- A step placed at an hour.
abbrev pub placed_at : (hour duration kind : ℕ) → Placed
placed_at hour duration kind = record { start = hour; duration = duration; kind = kind }

-- Which placed steps are reached from none by a chooser's rule: time and again the next step, at the hour that the rule
-- names for what is shown of it.
pub data Reached (s : RuleSheet) (rule : HourRule) : List (Option Placed) → Type 0 where
  nothing : Reached s rule (replicate 31 None)
  further : (placed : List (Option Placed)) (n duration kind first last : ℕ) → Reached s rule placed
      → IsNext s (starts placed) n
      → step_at s n ≡ Some (duration, kind)
      → IsWindow s (starts placed) n (pos first) (pos last)
      → Reached s rule (replaced placed n (Some (placed_at (rule.hour (view_of s placed n duration kind first last)) duration kind)))

-- The steps are filled in by a chooser's rule: they are reached, and none is left waiting.
pub record Filled (s : RuleSheet) (rule : HourRule) (placed : List (Option Placed)) : Type 0 where
  pub reached : Reached s rule placed
  pub none_left : (n : ℕ) → Waiting s (starts placed) n → ⊥
