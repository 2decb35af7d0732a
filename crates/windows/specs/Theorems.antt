-- What is proved of windows in general. Assumes nothing.
use Rattle.std.specs.Prelude.{◌≡◌, ℕ, List, ℤ, Option}
use Rattle.choose.specs.Choosing.{HourRule}
use Rattle.sheet.specs.Sheets.{RuleSheet}
use Rattle.sheet.specs.Timetables.{Timetable}
use Rattle.vessels.specs.declared.placed.Placed.{Placed}
use Rattle.windows.specs.Placing.{Filled}
use Rattle.windows.specs.Windows.{IsFirst, IsLast, IsSlack, IsNext}

-- Given the starts placed, a step has at most one earliest hour, one latest hour and one slack, and at most one step
-- is next. So a chooser's rule fills in the steps in one way at most.
pub record UniqueWindows : Type 0 where
  pub firsts : (s : RuleSheet) (placed : Timetable) (n : ℕ) (a b : ℤ) → IsFirst s placed n a → IsFirst s placed n b → a ≡ b
  pub lasts : (s : RuleSheet) (placed : Timetable) (n : ℕ) (a b : ℤ) → IsLast s placed n a → IsLast s placed n b → a ≡ b
  pub slacks : (s : RuleSheet) (placed : Timetable) (n : ℕ) (a b : ℤ) → IsSlack s placed n a → IsSlack s placed n b → a ≡ b
  pub next : (s : RuleSheet) (placed : Timetable) (m n : ℕ) → IsNext s placed m → IsNext s placed n → m ≡ n
  pub filled : (s : RuleSheet) (rule : HourRule) (a b : List (Option Placed)) → Filled s rule a → Filled s rule b → a ≡ b
