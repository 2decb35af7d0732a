-- The parts of the promise put together. Assumes nothing.
use Rattle.std.proofs.Common.{◌≡◌, ℕ, ◌≤◌, Bool, List, length, ℤ, Some, None, Ok, Err, Option, Result, sym, refl, ap, arith, lit≤}
use Rattle.alike.proofs.Carrying.{alike_by_chart, chart_by_alike}
use Rattle.changes.specs.Faults.{first_fault, fault_number}
use Rattle.changes.specs.declared.faults.CommandFault.{CommandFault}
use Rattle.changes.specs.declared.faults.CommandFault.TheVariants.{StepNumber, StepPresent, StepAbsent, Duration, Kind, Name, RuleNumber, RuleTaken, RuleAbsent, Hours as HoursOut, Carry, Amount, StepNamed}
use Rattle.choose.specs.Choosing.{HourRule}
use Rattle.kinds.specs.declared.alone.Hours.{Hours}
use Rattle.kinds.specs.declared.together.Counted.{Counted}
use Rattle.plan.specs.declared.planning.PlanRefusal.{PlanRefusal}
use Rattle.plan.specs.declared.planning.PlanRefusal.TheVariants as plan
use Rattle.planner.specs.Rules.{number_by}
use Rattle.sheet.specs.Limits.{SoundSheet}
use Rattle.sheet.specs.Sheets.{RuleSheet}
use Rattle.loops.specs.declared.refusals.LoopRefusal.{LoopRefusal}
use Rattle.loops.specs.declared.refusals.LoopRefusal.TheVariants as chart
use Rattle.promise.specs.Charts.{Enough, ChartTold, SameTold}
use Rattle.promise.specs.Plans.{PlanTold}
use Rattle.promise.specs.Promise.{Fourteen, Compared}
use Rattle.promise.specs.declared.plans.Plan.{Plan}

fault_small : (fault : CommandFault) → fault_number fault ≤ 13
fault_small StepNumber = lit≤ tt
fault_small StepPresent = lit≤ tt
fault_small StepAbsent = lit≤ tt
fault_small Duration = lit≤ tt
fault_small Kind = lit≤ tt
fault_small Name = lit≤ tt
fault_small RuleNumber = lit≤ tt
fault_small RuleTaken = lit≤ tt
fault_small RuleAbsent = lit≤ tt
fault_small HoursOut = lit≤ tt
fault_small Carry = lit≤ tt
fault_small Amount = lit≤ tt
fault_small StepNamed = lit≤ tt

no_fault : (o : Option CommandFault) → 14 ≡ number_by o → o ≡ None
no_fault None e = refl
no_fault (Some fault) e = let small = fault_small fault in absurd (omega arith)

pub fourteen : Fourteen
fourteen = record {
  only = λ sheet i after comes. let none = no_fault (first_fault sheet i) comes.numbered in (none, comes.impossible none);
  always = λ sheet i none never. record { numbered = sym (ap number_by none); impossible = λ _. never; stays = refl };
}

-- buffers of the same lengths
module _ (hours hours_later : List Hours) (counted counted_later : List Counted) (codes codes_later : List ℕ)
    (same_hours : length hours_later ≡ length hours) (same_counted : length counted_later ≡ length counted) (same_codes : length codes_later ≡ length codes) where
  enough_later : Enough hours counted codes → Enough hours_later counted_later codes_later
  enough_later enough =
      let h = enough.for_hours in
      let c = enough.for_counts in
      let k = enough.for_codes in
      record { for_hours = omega arith; for_counts = omega arith; for_codes = omega arith }

  enough_before : Enough hours_later counted_later codes_later → Enough hours counted codes
  enough_before enough =
      let h = enough.for_hours in
      let c = enough.for_counts in
      let k = enough.for_codes in
      record { for_hours = omega arith; for_counts = omega arith; for_codes = omega arith }

  pub chart_later : (s : RuleSheet) (r : Result (List ℤ) LoopRefusal) → ChartTold s hours_later counted_later codes_later r → ChartTold s hours counted codes r
  chart_later s (Ok a) told = told
  chart_later s (Err chart.TooShort) told = λ enough. told (enough_later enough)
  chart_later s (Err (chart.NoTimetable count)) told = told

  pub plan_later : (s : RuleSheet) (rule : HourRule) (stock : List ℕ) (r : Result Plan PlanRefusal) → PlanTold s rule stock hours_later counted_later codes_later r → PlanTold s rule stock hours counted codes r
  plan_later s rule stock (Ok given) told = told
  plan_later s rule stock (Err plan.TooShort) told = λ enough. told (enough_later enough)
  plan_later s rule stock (Err plan.Count) told = (enough_before told.0, told.1)
  plan_later s rule stock (Err (plan.NoTimetable count)) told = told
  plan_later s rule stock (Err (plan.NoVessel step)) told = told

pub compared : (s u : SoundSheet) (hours : List Hours) (counted : List Counted) (codes : List ℕ) (first second : Result (List ℤ) LoopRefusal) (same : Option Bool) → ChartTold s.told hours counted codes first → ChartTold u.told hours counted codes second → SameTold first second same → Compared s.told u.told first second same
compared s u hours counted codes (Ok a) (Ok b) (Some same) p q told = record {
  equal = told;
  alike = alike_by_chart s.told u.told s.sound u.sound a b p q;
  unlike = chart_by_alike s.told u.told a b p q;
}
compared s u hours counted codes (Ok a) (Ok b) None p q told = told
compared s u hours counted codes (Ok a) (Err refusal) same p q told = told
compared s u hours counted codes (Err refusal) second same p q told = told
