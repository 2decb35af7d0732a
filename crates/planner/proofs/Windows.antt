-- The window of a step, read off a planner's chart. Assumes nothing.
use Rattle.std.proofs.Common.{◌≡◌, ℕ, zero, suc, ◌+◌, ◌*◌, ◌<◌, Bool, true, false, cond, List, get_or, ℤ, pos, neg_ℤ, ◌≤ℤ◌, is_some, is_ok, Some, None, Ok, Err, Option, sym, refl, ap, ◌∙◌, subst, arith}
use mathlib.Core.HLevel.{×_prop, Π_prop}
use mathlib.Core.Logic.{∥∥₁_elim, ∥∥₁_prop}
use Rattle.std.proofs.lemmas.Int.{ints}
use Rattle.std.proofs.lemmas.Bool.{and_from, true≢false}
use Rattle.changes.specs.Faults.{outside}
use Rattle.changes.specs.declared.faults.CommandFault.TheVariants.{StepNumber}
use Rattle.checked.specs.Props.{told_by}
use Rattle.sheet.proofs.Numbered.{told_some}
use Rattle.sheet.specs.Limits.{FullSound, Sound}
use Rattle.sheet.specs.Sheets.{RuleSheet, HasStep, Present, numbered, rule_sheet}
use Rattle.sheet.specs.Waits.{IsWait}
use Rattle.sheet.specs.declared.forms.Sheet.{Sheet}
use Rattle.sheet.specs.declared.forms.Step.{Step}
use Rattle.walks.proofs.Orders.{le_prop}
use Rattle.walks.proofs.Short.{present_below}
use Rattle.walks.proofs.Small.{start_within, wait_small}
use Rattle.planner.specs.Invariant.{Plannable}
use Rattle.planner.specs.Questions.{present_record, record_told, IsWindow}

pub wait_prop : (s : RuleSheet) (i j : ℕ) (w : ℤ) → IsProp (IsWait s i j w)
wait_prop s i j w x y =
    λ k.
    record {
      attained = ∥∥₁_prop x.attained y.attained k;
      least = Π_prop (λ t. Π_prop (λ _. le_prop _ _)) x.least y.least k;
    }

step_present : (s : RuleSheet) (n : ℕ) → HasStep s n → Present s n
step_present s zero here = refl
step_present s (suc n) here = here

-- a step that is told is there
pub told_present : (sheet : Sheet) (n : ℕ) (step : Step) → record_told sheet n ≡ Ok step → HasStep (rule_sheet sheet) n
told_present sheet n step e = told_some sheet n ∙ by_tests (outside 1 31 n) (numbered None sheet.steps n) (ap is_ok e)
  where
    by_record : (o : Option Step) → is_ok (present_record o) ≡ true → is_some o ≡ true
    by_record None e = absurd (true≢false (sym e))
    by_record (Some s) e = refl

    by_tests : (b : Bool) (o : Option Step) → is_ok (cond b (Err StepNumber) (present_record o)) ≡ true → is_some o ≡ true
    by_tests true o e = absurd (true≢false (sym e))
    by_tests false o e = by_record o e

module _ (sheet : Sheet) (chart : List ℤ) (ok : ∥ FullSound sheet ∥₁) (kept : ∥ Plannable sheet chart ∥₁) (n : ℕ) (here : HasStep (rule_sheet sheet) n) where
  abbrev s : RuleSheet
  s = rule_sheet sheet

  sound : Sound s
  sound = (told_by sheet ok).sound

  pub low : n < 32
  low = present_below s sound n (step_present s n here)

  pub out : IsWait s 0 n (get_or chart n (pos 0))
  out =
      let place : 32 * 0 + n ≡ n = omega arith in
      ∥∥₁_elim kept (wait_prop s 0 n _)
      (λ k. subst (λ m. IsWait s 0 n (get_or chart m (pos 0))) place ((k.waits.entries 0 n (omega arith) low).there (and_from _ _ refl (step_present s n here))))

  pub back : IsWait s n 0 (get_or chart (32 * n) (pos 0))
  back =
      let place : 32 * n + 0 ≡ 32 * n = omega arith in
      ∥∥₁_elim kept (wait_prop s n 0 _)
      (λ k. subst (λ m. IsWait s n 0 (get_or chart m (pos 0))) place ((k.waits.entries n 0 low (omega arith)).there (and_from _ _ (step_present s n here) refl)))

  -- no step starts before hour zero, or later than 2,000 hours after it
  pub out_range : (pos 0 ≤ℤ get_or chart n (pos 0)) × (get_or chart n (pos 0) ≤ℤ pos 2000)
  out_range =
      ∥∥₁_elim out.attained (×_prop (le_prop _ _) (le_prop _ _))
      (λ way.
      let first = start_within s way.0 way.1 n in
      let small = wait_small s sound 0 n _ out in
      let e = way.2 in
      (omega (arith, ints), small.1))

  pub back_range : (neg_ℤ (pos 2000) ≤ℤ get_or chart (32 * n) (pos 0)) × (get_or chart (32 * n) (pos 0) ≤ℤ pos 0)
  back_range =
      ∥∥₁_elim back.attained (×_prop (le_prop _ _) (le_prop _ _))
      (λ way.
      let first = start_within s way.0 way.1 n in
      let small = wait_small s sound n 0 _ back in
      let e = way.2 in
      (small.0, omega (arith, ints)))

  pub is_window : (first last : ℕ) → pos first ≡ get_or chart n (pos 0) → neg_ℤ (pos last) ≡ get_or chart (32 * n) (pos 0) → IsWindow s n first last
  is_window first last e l = record {
    earliest = subst (IsWait s 0 n) (sym e) out;
    latest = subst (IsWait s n 0) (sym l) back;
  }
