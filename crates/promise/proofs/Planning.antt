-- A plan that was written, as its start hours and vessel numbers. Assumes nothing.
use Rattle.std.proofs.Common.{◌≡◌, ℕ, zero, suc, ◌+◌, ◌*◌, ◌<◌, ◌≤◌, cond, eqb, List, ◌++◌, length, pos, is_some, Some, None, Option, unwrap_or, sym, refl, ap, ◌∙◌, subst, arith}
use Rattle.std.proofs.lemmas.List.{append-nil, drop_all}
use Rattle.std.proofs.lemmas.Bool.{false≢true, ne_eqb}
use Rattle.std.proofs.lemmas.Int.{ints}
use Rattle.std.proofs.lemmas.Option.{none-some}
use Rattle.brews.specs.Brews.{Vessel, Holds, HeldOnce}
use Rattle.choose.specs.Choosing.{HourRule}
use Rattle.plan.specs.Plans.{CountsFit, written_start, start_hours, Settled, Written}
use Rattle.sheet.proofs.Numbered.{numbered-map}
use Rattle.sheet.specs.Limits.{Sound}
use Rattle.sheet.specs.Sheets.{RuleSheet, numbered, step_at}
use Rattle.sheet.specs.Timetables.{start, Lawful}
use Rattle.vessels.specs.Vessels.{all}
use Rattle.vessels.specs.declared.placed.Placed.{Placed}
use Rattle.walks.proofs.Small.{start_within}
use Rattle.windows.proofs.Records.{AsTold, reached_as_told}
use Rattle.windows.proofs.Steps.{step_numbers}
use Rattle.windows.specs.Placing.{start_of, starts, placed_at, Filled}
use Rattle.promise.specs.Plans.{timetable_of, hour_of, Holding, NeverTwice, PlanGiven}
use Rattle.promise.specs.declared.plans.Plan.{Plan}

-- a start hour that is written and is below 65,535 tells whether the step is placed, and when
read_back : (o : Option Placed) → ((step : Placed) → o ≡ Some step → step.start < 65535)
    → start_of o ≡ cond (eqb (written_start o) 65535) None (Some (pos (written_start o)))
read_back None low = refl
read_back (Some step) low =
    let before = low step refl in
    sym (ap (λ b. cond b None (Some (pos step.start))) (ne_eqb step.start 65535 (λ e. omega arith)))

module _ (s : RuleSheet) (ok : Sound s) (rule : HourRule) (placed : List (Option Placed)) (filled : Filled s rule placed) (lawful : Lawful s (starts placed)) where
  -- a step of the sheet is placed, with its duration and kind
  step_placed : (n duration kind : ℕ) → step_at s n ≡ Some (duration, kind) → AsTold s n (numbered None placed n)
  step_placed n duration kind told = reached_as_told s ok rule placed filled.reached n (lawful.covers n ∙ ap is_some told)

  -- a step starts within the span
  small : (n : ℕ) (step : Placed) → numbered None placed n ≡ Some step → step.start < 65535
  small zero step is = absurd (none-some step is)
  small (suc n) step is =
      let begins : start (starts placed) (suc n) ≡ pos step.start = ap (λ (o : Option Placed). unwrap_or (start_of o) (pos 0)) is in
      let within = (start_within s (starts placed) lawful (suc n)).1 in
      let limit = ok.span.1 in
      omega (arith, ints)

  -- the start hours tell the same timetable as the steps
  same_starts : starts placed ≡ timetable_of (start_hours placed)
  same_starts =
      λ i n.
      (read_back (numbered None placed n) (small n) ∙ ap (λ h. cond (eqb h 65535) None (Some (pos h))) (sym (numbered-map written_start None placed n))) i

  module _ (plan : Plan) (hours : plan.starts ≡ start_hours placed) where
    -- where a plan holds a vessel, so does the list of steps that it was made from
    holds : (n brew : ℕ) (vessel : Vessel) (hour : ℕ) → Holding s plan n brew vessel hour → (p : ℕ) × (n ≡ suc p) × Holds s.period placed plan.vessels p brew vessel hour
    holds zero brew vessel hour holding = absurd (false≢true (ap is_some holding.told))
    holds (suc p) brew vessel hour holding =
        let told = holding.told in
        let number = step_numbers s ok (suc p) (ap is_some told) in
        let known = step_placed (suc p) holding.duration vessel.kind told in
        let same = ap (λ o. unwrap_or o (0, 0)) (sym known.told ∙ told) in
        let begins : hour_of plan.starts (suc p) ≡ known.start =
        ap (λ hs. numbered 65535 hs (suc p)) hours ∙ numbered-map written_start None placed (suc p) ∙ ap written_start known.is in
        let lasts : known.duration ≡ holding.duration = ap (λ (told : ℕ × ℕ). told.0) same in (
          p,
          refl,
          record {
            is_step = omega arith;
            step = placed_at known.start known.duration known.kind;
            present = known.is;
            its_kind = ap (λ (told : ℕ × ℕ). told.1) same;
            its_number = holding.its_number;
            from = subst (λ start. start + brew * s.period ≤ hour) begins holding.from;
            before = subst (λ last. hour < known.start + brew * s.period + last) (sym lasts) (subst (λ start. hour < start + brew * s.period + holding.duration) begins holding.before);
          },
        )

    never_twice : HeldOnce s.period placed plan.vessels → NeverTwice s plan
    never_twice once n j m k vessel hour one other =
        let a = holds n j vessel hour one in
        let b = holds m k vessel hour other in
        let same = once a.0 j b.0 k vessel hour a.2 b.2 in
        (a.1 ∙ ap suc same.0 ∙ sym b.1, same.1)

-- what was written is a plan given
pub plan_given : (s : RuleSheet) → Sound s → (rule : HourRule) (stock : List ℕ) (plan : Plan) (starts_before vessels_before : List ℕ) → length starts_before ≡ 31 → length vessels_before ≡ 31 → CountsFit stock
    → Written s rule stock starts_before plan.starts vessels_before plan.vessels → PlanGiven s rule stock plan
plan_given s ok rule stock plan starts_before vessels_before short few counts written =
    let hours : plan.starts ≡ start_hours written.placed = written.starts_written ∙ ap (λ xs. start_hours written.placed ++ xs) (drop_all 31 starts_before (omega arith)) ∙ append-nil (start_hours written.placed) in
    let numbers : plan.vessels ≡ written.numbers = written.vessels_written ∙ ap (λ xs. written.numbers ++ xs) (drop_all 31 vessels_before (omega arith)) ∙ append-nil written.numbers in
    record {
      counts = counts;
      placed = written.placed;
      settled = subst (λ xs. Settled s rule stock written.placed (all xs)) (sym numbers) written.settled;
      hours = hours;
      lawful = subst (λ hs. Lawful s (timetable_of hs)) (sym hours) (subst (Lawful s) (same_starts s ok rule written.placed written.settled.filled written.lawful) written.lawful);
      once = never_twice s ok rule written.placed written.settled.filled written.lawful plan hours (subst (HeldOnce s.period written.placed) (sym numbers) written.once);
    }
