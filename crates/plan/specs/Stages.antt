-- The stages of filling a timetable. Assumes nothing.
use Rattle.std.specs.Prelude.{◌≡◌, ℕ, is_none, List, length, pos, Some, count_by, Option}
use Rattle.choose.specs.Choosing.{HourRule}
use Rattle.plan.specs.Told.{Told}
use Rattle.plan.specs.declared.window.Window.{Window}
use Rattle.sheet.specs.Sheets.{RuleSheet, step_at}
use Rattle.vessels.specs.declared.placed.Placed.{Placed}
use Rattle.windows.specs.Placing.{starts, view_of, placed_at, Reached}
use Rattle.windows.specs.Windows.{IsWindow}

-- Some steps are placed by a chooser's rule, and the windows are those that they leave.
pub record Stage (s : RuleSheet) (rule : HourRule) (windows : List (Option Window)) (placed : List (Option Placed)) : Type 0 where
  pub reached : Reached s rule placed
  pub told : Told s (starts placed) windows
  pub long : length placed ≡ 31

-- Step n, with its duration and kind, at the hour that a chooser's rule names for what is shown of it.
pub record Chosen (s : RuleSheet) (rule : HourRule) (placed : List (Option Placed)) (n : ℕ) (step : Placed) : Type 0 where
  pub duration : ℕ
  pub kind : ℕ
  pub first : ℕ
  pub last : ℕ
  pub told : step_at s n ≡ Some (duration, kind)
  pub window : IsWindow s (starts placed) n (pos first) (pos last)
  pub is : step ≡ placed_at (rule.hour (view_of s placed n duration kind first last)) duration kind

-- How many places of the list have no step placed.
abbrev pub left_over : List (Option Placed) → ℕ
left_over placed = count_by is_none placed
