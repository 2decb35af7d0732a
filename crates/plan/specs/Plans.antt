-- The answer to a call for a plan. Assumes nothing.
use Rattle.std.specs.Prelude.{◌≡◌, ℕ, ◌<◌, ◌≤◌, List, ◌++◌, map, length, drop, Some, None, Ok, Err, Option, Result, slice_index}
use Rattle.choose.specs.Choosing.{HourRule}
use Rattle.kinds.specs.declared.alone.Hours.{Hours}
use Rattle.kinds.specs.declared.together.Counted.{Counted}
use Rattle.loops.specs.Loops.{LoopWritten, RestKept}
use Rattle.plan.specs.declared.planning.PlanRefusal.{PlanRefusal}
use Rattle.plan.specs.declared.planning.PlanRefusal.TheVariants.{TooShort, Count, NoTimetable, NoVessel}
use Rattle.sheet.specs.Sheets.{RuleSheet}
use Rattle.sheet.specs.Timetables.{Timetable, Lawful}
use Rattle.vessels.specs.Vessels.{Outcome, all, missing, GivesOut}
use Rattle.vessels.specs.declared.placed.Placed.{Placed}
use Rattle.vessels.specs.declared.refusals.Refusal.{Refusal}
use Rattle.vessels.specs.declared.refusals.Refusal.TheVariants.{TooShort as Short, NoVessel as Lacks}
use Rattle.loops.specs.declared.refusals.LoopRefusal.{LoopRefusal}
use Rattle.loops.specs.declared.refusals.LoopRefusal.TheVariants.{TooShort as NoRoom, NoTimetable as NothingLawful}
use Rattle.brews.specs.Brews.{HeldOnce}
use Rattle.windows.specs.Placing.{Filled, starts as starts_of}

-- The number of each refusal.
abbrev pub plan_number : PlanRefusal → ℕ
plan_number TooShort = 30
plan_number Count = 12
plan_number (NoTimetable count) = 14
plan_number (NoVessel step) = 40

-- Of each kind there are at most 16 vessels.
abbrev pub CountsFit : List ℕ → Type 0
CountsFit stock = (kind : ℕ) → slice_index stock kind ≤ 16

-- Of some kind there are more.
pub record CountOver (stock : List ℕ) : Type 0 where
  pub kind : ℕ
  pub over : 16 < slice_index stock kind

-- The start hour that is written for a step: 65,535 for an absent one.
abbrev pub written_start : Option Placed → ℕ
written_start None = 65535
written_start (Some step) = step.start

-- The start hours of the steps, in the order of their numbers: 65,535 for an absent step.
abbrev pub start_hours : List (Option Placed) → List ℕ
start_hours placed = map written_start placed

-- What comes of a sheet, a chooser's rule and a stock: the steps are filled in by the rule, and then vessels are given
-- out to them. Nothing else can come of them.
pub record Settled (s : RuleSheet) (rule : HourRule) (stock : List ℕ) (placed : List (Option Placed)) (outcome : Outcome) : Type 0 where
  pub filled : Filled s rule placed
  pub by_rule : GivesOut s.period stock placed outcome
  pub only : (others : List (Option Placed)) (other : Outcome) → Filled s rule others → GivesOut s.period stock others other
      → (others ≡ placed) × (other ≡ outcome)

-- Every step finds a vessel: the start hours and the vessel numbers of the 31 steps go to the front of their buffers,
-- and what lies behind them stays. The start hours are a lawful timetable, and over all brews no vessel is held twice.
pub record Written (s : RuleSheet) (rule : HourRule) (stock : List ℕ) (starts starts_after vessels vessels_after : List ℕ) : Type 0 where
  pub placed : List (Option Placed)
  pub numbers : List ℕ
  pub settled : Settled s rule stock placed (all numbers)
  pub lawful : Lawful s (starts_of placed)
  pub once : HeldOnce s.period placed numbers
  pub starts_written : starts_after ≡ start_hours placed ++ drop 31 starts
  pub vessels_written : vessels_after ≡ numbers ++ drop 31 vessels

-- A step, and no lower-numbered one, finds no vessel: both buffers are as they were.
pub record Lacking (s : RuleSheet) (rule : HourRule) (stock : List ℕ) (step : ℕ) (starts starts_after vessels vessels_after : List ℕ) : Type 0 where
  pub placed : List (Option Placed)
  pub settled : Settled s rule stock placed (missing step)
  pub starts_kept : starts_after ≡ starts
  pub vessels_kept : vessels_after ≡ vessels

-- With room in both buffers one of these two comes of giving out vessels, and no other refusal.
abbrev pub Wrote : RuleSheet → HourRule → List ℕ → (starts starts_after vessels vessels_after : List ℕ) → Result (Unit {0}) Refusal → Type 0
Wrote s rule stock starts starts_after vessels vessels_after (Ok done) = Written s rule stock starts starts_after vessels vessels_after
Wrote s rule stock starts starts_after vessels vessels_after (Err Short) = ⊥
Wrote s rule stock starts starts_after vessels vessels_after (Err (Lacks step)) = Lacking s rule stock step starts starts_after vessels vessels_after

-- What a plan makes of a refusal of the wait chart or of the vessels.
abbrev pub of_chart : LoopRefusal → PlanRefusal
of_chart NoRoom = TooShort
of_chart (NothingLawful count) = NoTimetable count

abbrev pub of_vessels : Refusal → PlanRefusal
of_vessels Short = TooShort
of_vessels (Lacks step) = NoVessel step

-- the five buffers of a call: two working charts, the codes, the start hours and the vessel numbers
pub record Buffers : Type 0 where
  pub hours : List Hours
  pub counted : List Counted
  pub codes : List ℕ
  pub starts : List ℕ
  pub vessels : List ℕ

pub record Room (b : Buffers) : Type 0 where
  pub hours : 1024 ≤ length b.hours
  pub counted : 1024 ≤ length b.counted
  pub codes : 32 ≤ length b.codes
  pub starts : 31 ≤ length b.starts
  pub vessels : 31 ≤ length b.vessels

-- A plan was given. Of the working charts the one of hours was used.
pub record Given (s : RuleSheet) (rule : HourRule) (stock : List ℕ) (before after : Buffers) : Type 0 where
  pub room : Room before
  pub counts : CountsFit stock
  pub plan : Written s rule stock before.starts after.starts before.vessels after.vessels
  pub hours : RestKept before.hours after.hours
  pub counted : after.counted ≡ before.counted
  pub codes : after.codes ≡ before.codes

-- A step finds no vessel.
pub record Unserved (s : RuleSheet) (rule : HourRule) (stock : List ℕ) (step : ℕ) (before after : Buffers) : Type 0 where
  pub room : Room before
  pub counts : CountsFit stock
  pub lacking : Lacking s rule stock step before.starts after.starts before.vessels after.vessels
  pub hours : RestKept before.hours after.hours
  pub counted : after.counted ≡ before.counted
  pub codes : after.codes ≡ before.codes

-- The sheet has no lawful timetable: the codes of a loop are written.
pub record Looped (s : RuleSheet) (stock : List ℕ) (count : ℕ) (before after : Buffers) : Type 0 where
  pub room : Room before
  pub counts : CountsFit stock
  pub none : (t : Timetable) → Lawful s t → ⊥
  pub loop : LoopWritten s before.codes after.codes count
  pub hours : RestKept before.hours after.hours
  pub counted : RestKept before.counted after.counted
  pub starts : after.starts ≡ before.starts
  pub vessels : after.vessels ≡ before.vessels

-- The answer, with the buffers before and after. Where a buffer is too short or a count is above 16, all buffers are as
-- they were.
abbrev pub Planned : RuleSheet → HourRule → List ℕ → Buffers → Buffers → Result (Unit {0}) PlanRefusal → Type 0
Planned s rule stock before after (Ok done) = Given s rule stock before after
Planned s rule stock before after (Err TooShort) = (Room before → ⊥) × (after ≡ before)
Planned s rule stock before after (Err Count) = Room before × CountOver stock × (after ≡ before)
Planned s rule stock before after (Err (NoTimetable count)) = Looped s stock count before after
Planned s rule stock before after (Err (NoVessel step)) = Unserved s rule stock step before after
