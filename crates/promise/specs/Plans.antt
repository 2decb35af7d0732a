-- What is told of a plan. Assumes nothing.
use Rattle.std.specs.Prelude.{◌≡◌, ℕ, ◌+◌, ◌*◌, ◌<◌, ◌≤◌, List, pos, Some, None, Ok, Err, Option, Result, ◌==◌, if◌then◌else◌}
use Rattle.brews.specs.Brews.{Vessel}
use Rattle.choose.specs.Choosing.{HourRule}
use Rattle.kinds.specs.declared.alone.Hours.{Hours}
use Rattle.kinds.specs.declared.together.Counted.{Counted}
use Rattle.plan.specs.Plans.{CountsFit, CountOver, Settled, start_hours}
use Rattle.plan.specs.declared.planning.PlanRefusal.{PlanRefusal}
use Rattle.plan.specs.declared.planning.PlanRefusal.TheVariants.{TooShort, Count, NoTimetable, NoVessel}
use Rattle.sheet.specs.Sheets.{RuleSheet, numbered, step_at}
use Rattle.sheet.specs.Timetables.{Timetable, Lawful}
use Rattle.vessels.specs.Vessels.{all, missing}
use Rattle.vessels.specs.declared.placed.Placed.{Placed}
use Rattle.promise.specs.Charts.{Enough}
use Rattle.promise.specs.declared.plans.Plan.{Plan}

-- The start hour that a plan gives to step n; 65,535 stands for none.
abbrev pub hour_of : List ℕ → ℕ → ℕ
hour_of hours n = numbered 65535 hours n

-- A plan's start hours as a timetable.
abbrev pub timetable_of : List ℕ → Timetable
timetable_of hours n = if hour_of hours n == 65535 then None else Some (pos (hour_of hours n))

-- Step n of a brew holds a vessel in an hour. Brew k, counted from 0, holds the step's vessel from start + k × period for
-- the step's duration; the vessel is of the step's kind and has the number that the plan gives to the step.
pub record Holding (s : RuleSheet) (plan : Plan) (n brew : ℕ) (vessel : Vessel) (hour : ℕ) : Type 0 where
  pub duration : ℕ
  pub told : step_at s n ≡ Some (duration, vessel.kind)
  pub its_number : numbered 0 plan.vessels n ≡ vessel.number
  pub from : hour_of plan.starts n + brew * s.period ≤ hour
  pub before : hour < hour_of plan.starts n + brew * s.period + duration

-- Over all brews no vessel is held in one hour by two steps, or by one step for two brews.
abbrev pub NeverTwice : RuleSheet → Plan → Type 0
NeverTwice s plan =
    (n j m k : ℕ) (vessel : Vessel) (hour : ℕ) → Holding s plan n j vessel hour → Holding s plan m k vessel hour → (n ≡ m) × (j ≡ k)

-- A plan that is given: the steps are filled in by the chooser's rule and have the vessels due to them, which is the one
-- outcome that the rules leave; the start hours are a lawful timetable, and no vessel is held twice.
pub record PlanGiven (s : RuleSheet) (rule : HourRule) (stock : List ℕ) (plan : Plan) : Type 0 where
  pub counts : CountsFit stock
  pub placed : List (Option Placed)
  pub settled : Settled s rule stock placed (all plan.vessels)
  pub hours : plan.starts ≡ start_hours placed
  pub lawful : Lawful s (timetable_of plan.starts)
  pub once : NeverTwice s plan

-- The first step that finds no vessel, where the rules leave no other outcome.
pub record StepLacks (s : RuleSheet) (rule : HourRule) (stock : List ℕ) (step : ℕ) : Type 0 where
  pub counts : CountsFit stock
  pub placed : List (Option Placed)
  pub settled : Settled s rule stock placed (missing step)

-- A plan is given or refused as the rules say: by 30 for want of room, by 12 for a count above 16, by 14 where there is no
-- lawful timetable, by 40 exactly if some step finds no vessel.
abbrev pub PlanTold : RuleSheet → HourRule → List ℕ → List Hours → List Counted → List ℕ → Result Plan PlanRefusal → Type 0
PlanTold s rule stock hours counted codes (Ok plan) = PlanGiven s rule stock plan
PlanTold s rule stock hours counted codes (Err TooShort) = Enough hours counted codes → ⊥
PlanTold s rule stock hours counted codes (Err Count) = Enough hours counted codes × CountOver stock
PlanTold s rule stock hours counted codes (Err (NoTimetable count)) = CountsFit stock × ((t : Timetable) → Lawful s t → ⊥)
PlanTold s rule stock hours counted codes (Err (NoVessel step)) = StepLacks s rule stock step
