-- No step that a chooser's rule places takes longer than the period. Assumes nothing.
use Rattle.std.proofs.Common.{◌≡◌, ℕ, zero, suc, ◌≤◌, List, length, pos, Some, None, Option, sym, ap, ◌∙◌, ⊎_elim, arith}
use mathlib.Core.Logic.{∥∥₁_elim}
use native.Mathlib.Bridge.{le_prop}
use Rattle.std.proofs.lemmas.List.{get_or-replicate, get_or-set_same, get_or-set_other}
use Rattle.std.proofs.lemmas.Bool.{cases_eq}
use Rattle.std.proofs.lemmas.Option.{none-some, same_Some}
use Rattle.brews.specs.Brews.{InPeriod}
use Rattle.choose.specs.Choosing.{HourRule}
use Rattle.sheet.specs.Edits.{replaced}
use Rattle.sheet.specs.Limits.{Sound}
use Rattle.sheet.specs.Sheets.{RuleSheet, step_at, hours_of, HasStep}
use Rattle.sheet.specs.Timetables.{Timetable}
use Rattle.vessels.specs.Vessels.{at}
use Rattle.vessels.specs.declared.placed.Placed.{Placed}
use Rattle.windows.specs.Placing.{starts, Reached, nothing, further}
use Rattle.windows.specs.Windows.{IsWindow}
use Rattle.windows.proofs.Records.{reached_long}
use Rattle.windows.proofs.Steps.{step_numbers}

-- a list with another step at a number
in_period_more : (period : ℕ) (placed : List (Option Placed)) (n : ℕ) (new : Placed) → length placed ≡ 31 → 1 ≤ n → n ≤ 31 → new.duration ≤ period → InPeriod period placed → InPeriod period (replaced placed n (Some new))
in_period_more period placed zero new long some few short before place inside step present = absurd (omega arith)
in_period_more period placed (suc m) new long some few short before place inside step present =
    ⊎_elim
    (λ same.
    let here : Some new ≡ Some step = sym (get_or-set_same placed m (Some new) None (omega arith)) ∙ sym (ap (at (replaced placed (suc m) (Some new))) same) ∙ present in
    omega (arith, ap (λ (p : Placed). p.duration) (same_Some new step here)))
    (λ other. before place inside step (sym (get_or-set_other placed m place (Some new) None other) ∙ present))
    (cases_eq place m)

module _ (s : RuleSheet) (ok : Sound s) (rule : HourRule) where
  -- some lawful timetable has the step, so it does not take longer than the period
  short_step : (placed : Timetable) (n duration kind first last : ℕ) → HasStep s n → step_at s n ≡ Some (duration, kind) → IsWindow s placed n (pos first) (pos last) → duration ≤ s.period
  short_step placed n duration kind first last there told window =
      ∥∥₁_elim window.from.attained le_prop
      (λ way.
      let fits = way.1.in_period n there in
      let same = ap hours_of told in
      omega arith)

  pub reached_in_period : (placed : List (Option Placed)) → Reached s rule placed → InPeriod s.period placed
  reached_in_period placed nothing place inside step present =
      absurd (none-some step (sym (get_or-replicate {A = Option Placed} 31 place None None inside) ∙ present))
  reached_in_period placed (further old n duration kind first last reached next told window) place inside step present =
      let number = step_numbers s ok n next.waiting.there in
      in_period_more s.period old n _ (reached_long s ok rule old reached) number.0 number.1 (short_step (starts old) n duration kind first last next.waiting.there told window) (reached_in_period old reached) place inside step present
