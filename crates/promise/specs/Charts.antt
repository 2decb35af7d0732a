-- What is told of wait charts. Assumes nothing.
use Rattle.std.specs.Prelude.{◌≡◌, ℕ, ◌≤◌, ◌↔◌, Bool, List, length, ℤ, Some, None, Ok, Err, IsTrue, Option, Result}
use Rattle.kinds.specs.declared.alone.Hours.{Hours}
use Rattle.kinds.specs.declared.together.Counted.{Counted}
use Rattle.sheet.specs.Sheets.{RuleSheet}
use Rattle.sheet.specs.Timetables.{Timetable, Lawful}
use Rattle.sheet.specs.Waits.{IsChart}
use Rattle.loops.specs.declared.refusals.LoopRefusal.{LoopRefusal}
use Rattle.loops.specs.declared.refusals.LoopRefusal.TheVariants.{TooShort, NoTimetable}

-- The working charts and the codes have their room.
pub record Enough (hours : List Hours) (counted : List Counted) (codes : List ℕ) : Type 0 where
  pub for_hours : 1024 ≤ length hours
  pub for_counts : 1024 ≤ length counted
  pub for_codes : 32 ≤ length codes

-- A chart that is given is the least waits over lawful timetables. It is refused only by 30, for want of room, or by 14,
-- where there is no lawful timetable.
abbrev pub ChartTold : RuleSheet → List Hours → List Counted → List ℕ → Result (List ℤ) LoopRefusal → Type 0
ChartTold s hours counted codes (Ok chart) = IsChart s chart
ChartTold s hours counted codes (Err TooShort) = Enough hours counted codes → ⊥
ChartTold s hours counted codes (Err (NoTimetable count)) = (t : Timetable) → Lawful s t → ⊥

-- Two charts that are given are compared in all entries.
abbrev pub SameTold : Result (List ℤ) LoopRefusal → Result (List ℤ) LoopRefusal → Option Bool → Type 0
SameTold (Ok a) (Ok b) (Some same) = IsTrue same ↔ (a ≡ b)
SameTold (Ok a) (Ok b) None = ⊥
SameTold (Ok a) (Err refusal) answer = answer ≡ None
SameTold (Err refusal) second answer = answer ≡ None
