-- The windows of steps while a timetable is filled, step by step, and which step comes next. Assumes nothing.
use Rattle.std.specs.Prelude.{◌≡◌, ℕ, ◌+◌, ◌*◌, ◌<◌, false, List, ℤ, pos, ◌-ℤ◌, ◌≤ℤ◌, ◌<ℤ◌, is_some, Some, None, ◌==◌, if◌then◌else◌, slice_index_or}
use Rattle.sheet.specs.Sheets.{RuleSheet, HasStep}
use Rattle.sheet.specs.Timetables.{Timetable, start, Lawful}

-- The entry of a wait chart from place i to place j.
abbrev pub entry : List ℤ → ℕ → ℕ → ℤ
entry chart i j = slice_index_or chart (32 * i + j) (pos 0)

-- The starts placed so far are a timetable that gives a start to the steps placed and to no other. At the beginning it
-- gives none.
abbrev pub nothing_placed : Timetable
nothing_placed n = None

-- The starts placed, with one more: step n at an hour.
abbrev pub with_start : Timetable → ℕ → ℤ → Timetable
with_start placed n hour m = if m == n then Some hour else placed m

-- A timetable agrees with the starts placed: each step placed starts at its hour.
abbrev pub Agrees : Timetable → Timetable → Type 0
Agrees placed t = (n : ℕ) (hour : ℤ) → placed n ≡ Some hour → t n ≡ Some hour

-- The earliest hour of step n, given the starts placed: the least start over the lawful timetables that agree with them.
pub record IsFirst (s : RuleSheet) (placed : Timetable) (n : ℕ) (hour : ℤ) : Type 0 where
  -- some such timetable has it
  pub attained : ∥ ((t : Timetable) × Lawful s t × Agrees placed t × (start t n ≡ hour)) ∥₁
  -- and none has less
  pub least : (t : Timetable) → Lawful s t → Agrees placed t → hour ≤ℤ start t n

-- The latest hour of step n, given the starts placed: the greatest start over those timetables.
pub record IsLast (s : RuleSheet) (placed : Timetable) (n : ℕ) (hour : ℤ) : Type 0 where
  pub attained : ∥ ((t : Timetable) × Lawful s t × Agrees placed t × (start t n ≡ hour)) ∥₁
  pub greatest : (t : Timetable) → Lawful s t → Agrees placed t → start t n ≤ℤ hour

-- The window of step n, given the starts placed, runs from the earliest hour to the latest.
pub record IsWindow (s : RuleSheet) (placed : Timetable) (n : ℕ) (first last : ℤ) : Type 0 where
  pub from : IsFirst s placed n first
  pub to : IsLast s placed n last

-- The slack of step n: how many hours lie between the earliest and the latest.
pub record IsSlack (s : RuleSheet) (placed : Timetable) (n : ℕ) (hours : ℤ) : Type 0 where
  pub first : ℤ
  pub last : ℤ
  pub window : IsWindow s placed n first last
  pub between : hours ≡ last -ℤ first

-- Step n is on the sheet and not placed yet.
pub record Waiting (s : RuleSheet) (placed : Timetable) (n : ℕ) : Type 0 where
  pub there : HasStep s n
  pub not_placed : is_some (placed n) ≡ false

-- The next step placed is the waiting step with the least slack; at a tie, the smaller number.
pub record IsNext (s : RuleSheet) (placed : Timetable) (n : ℕ) : Type 0 where
  pub waiting : Waiting s placed n
  pub slack : ℤ
  pub is_slack : IsSlack s placed n slack
  pub fewest : (m : ℕ) → Waiting s placed m → (hours : ℤ) → IsSlack s placed m hours → slack ≤ℤ hours
  pub smallest : (m : ℕ) → m < n → Waiting s placed m → (hours : ℤ) → IsSlack s placed m hours → slack <ℤ hours
