-- A sheet that keeps every limit keeps them through a command whose values do. Assumes nothing.
use Rattle.std.proofs.Common.{◌≡◌, ℕ, zero, suc, ◌<◌, ◌≤◌, true, List, [], ◌∷◌, length, get_or, set, replicate, is_some, Some, None, sym, refl, ap, ◌∙◌, subst, arith, lit≤, eqb-true, leb-true}
use Rattle.std.proofs.lemmas.List.{length-map}
use Rattle.std.proofs.lemmas.Bool.{and_parts, false≢true}
use Rattle.std.specs.Option.{option_map}
use Rattle.book.specs.Commands.{Instruction, add_step, remove_step, set_duration, put_after, put_within, put_at, remove_rule, set_period, set_span, set_vessels}
use Rattle.changes.specs.Changes.{asked, with_period, with_span}
use Rattle.changes.specs.Tests.{from, printable, name_fits, puts_in_limits}
use Rattle.sheet.proofs.Numbered.{length-replaced, told_step, told_some}
use Rattle.sheet.specs.Edits.{empty_sheet, replaced, with_step, with_rule}
use Rattle.sheet.specs.Limits.{From, StepFits, RuleFits, NameFits, FullSound}
use Rattle.sheet.specs.Sheets.{numbered, rule_at, HasStep, rule_sheet, without_name}
use Rattle.sheet.specs.declared.forms.Rule.{Rule}
use Rattle.sheet.specs.declared.forms.Rule.TheVariants.{Free, After, Within, At}
use Rattle.sheet.specs.declared.forms.Sheet.{Sheet}
use Rattle.sheet.specs.declared.forms.Step.{Step}

-- what holds of each entry of a table, and of one more at its place, holds of each entry with that one put in
pub set_each : {X : Type 0} (P : ℕ → X → Type 0) (none x : X) (xs : List X) → ((n : ℕ) → P n (get_or xs n none)) → (k : ℕ) → P k x → (n : ℕ) → P n (get_or (set xs k x) n none)
set_each P none x [] each k here n = each n
set_each P none x (y ∷ ys) each zero here zero = here
set_each P none x (y ∷ ys) each zero here (suc n) = each (suc n)
set_each P none x (y ∷ ys) each (suc k) here zero = each zero
set_each P none x (y ∷ ys) each (suc k) here (suc n) = set_each (λ m. P (suc m)) none x ys (λ m. each (suc m)) k here n

pub replaced_each : {X : Type 0} (P : ℕ → X → Type 0) (none x : X) (xs : List X) → ((n : ℕ) → P n (numbered none xs n)) → (k : ℕ) → P k x → (n : ℕ) → P n (numbered none (replaced xs k x) n)
replaced_each P none x xs each zero here n = each n
replaced_each P none x xs each (suc k) here zero = each zero
replaced_each P none x xs each (suc k) here (suc n) = set_each (λ m. P (suc m)) none x xs (λ m. each (suc m)) k here n

-- a rule keeps its limits where more steps are there
more_steps : {There Also : ℕ → Type 0} → ((n : ℕ) → There n → Also n) → (rule : Rule) → RuleFits There rule → RuleFits Also rule
more_steps more Free fits = tt
more_steps more (After u v gap carry) fits = (more u fits.0, more v fits.1, fits.2, fits.3)
more_steps more (Within u v hours) fits = (more u fits.0, more v fits.1, fits.2)
more_steps more (At v hour) fits = (more v fits.0, fits.1)

module _ (sheet : Sheet) (ok : FullSound sheet) where
  pub step_kept : (n : ℕ) (step : Step) → From 1 999 step.duration → step.kind ≤ 7 → NameFits (Some step) → FullSound (with_step sheet n (Some step))
  step_kept n step duration kind name =
      let new = with_step sheet n (Some step) in
      let fits : (m : ℕ) → StepFits (option_map without_name (numbered None new.steps m)) =
      replaced_each (λ _ o. StepFits (option_map without_name o)) None (Some step) sheet.steps (λ m. subst StepFits (told_step sheet m) (ok.rules.steps m)) n (duration, kind) in
      let still : (m : ℕ) → is_some (numbered None sheet.steps m) ≡ true → is_some (numbered None new.steps m) ≡ true =
      replaced_each (λ m o. is_some (numbered None sheet.steps m) ≡ true → is_some o ≡ true) None (Some step) sheet.steps (λ m h. h) n (λ _. refl) in
      record {
        rules = record {
          period = ok.rules.period;
          span = ok.rules.span;
          step_count = length-map new.steps (option_map without_name) ∙ length-replaced None sheet.steps n (Some step) ∙ sym (length-map sheet.steps (option_map without_name)) ∙ ok.rules.step_count;
          rule_count = ok.rules.rule_count;
          steps = λ m. subst StepFits (sym (told_step new m)) (fits m);
          rules = λ r. more_steps (λ m here. told_some new m ∙ still m (sym (told_some sheet m) ∙ here)) (rule_at (rule_sheet sheet) r) (ok.rules.rules r);
        };
        names = replaced_each (λ _. NameFits) None (Some step) sheet.steps ok.names n name;
        kinds = ok.kinds;
        counts = ok.counts;
      }

  pub rule_kept : (r : ℕ) (rule : Rule) → RuleFits (HasStep (rule_sheet sheet)) rule → FullSound (with_rule sheet r rule)
  rule_kept r rule fits = record {
    rules = record {
      period = ok.rules.period;
      span = ok.rules.span;
      step_count = ok.rules.step_count;
      rule_count = length-replaced Free sheet.rules r rule ∙ ok.rules.rule_count;
      steps = ok.rules.steps;
      rules = replaced_each (λ _. RuleFits (HasStep (rule_sheet sheet))) Free rule sheet.rules ok.rules.rules r fits;
    };
    names = ok.names;
    kinds = ok.kinds;
    counts = ok.counts;
  }

  hours_kept : (period span : ℕ) → From 1 999 period → From 1 2000 span → FullSound (with_span (with_period sheet period) span)
  hours_kept period span p q = record {
    rules = record { period = p; span = q; step_count = ok.rules.step_count; rule_count = ok.rules.rule_count; steps = ok.rules.steps; rules = ok.rules.rules };
    names = ok.names;
    kinds = ok.kinds;
    counts = ok.counts;
  }

pub from_test : (low high n : ℕ) → from low high n ≡ true → From low high n
from_test low high n e = let p = and_parts _ _ e in (leb-true _ _ p.0, leb-true _ _ p.1)

printable_at : (bs : List ℕ) → printable bs ≡ true → (k : ℕ) → k < length bs → From 0x20 0x7E (get_or bs k 0)
printable_at [] e k h = absurd (omega arith)
printable_at (b ∷ bs) e zero h = from_test 0x20 0x7E b (and_parts _ _ e).0
printable_at (b ∷ bs) e (suc k) h = printable_at bs (and_parts _ _ e).1 k (omega arith)

name_test : (name : List ℕ) → name_fits name ≡ true → (length name ≡ 8) × ((k : ℕ) → k < 8 → From 0x20 0x7E (get_or name k 0))
name_test name e =
    let p = and_parts _ _ e in
    let eight = eqb-true (length name) 8 p.0 in
    (eight, λ k h. printable_at name p.1 k (omega arith))

-- a command that puts something on a sheet within the limits leaves a sheet within the limits
pub asked_sound : (sheet : Sheet) → FullSound sheet → (i : Instruction) → puts_in_limits sheet i ≡ true → FullSound (asked sheet i)
asked_sound sheet ok (add_step n duration kind name) e =
    let p = and_parts _ _ e in
    let q = and_parts _ _ p.1 in
    let r = and_parts _ _ q.1 in
    step_kept sheet ok n (record { duration = duration; kind = kind; name = name }) (from_test _ _ _ q.0) (leb-true _ _ r.0) (name_test name r.1)
asked_sound sheet ok (remove_step n) e = absurd (false≢true e)
asked_sound sheet ok (set_duration n duration) e = absurd (false≢true e)
asked_sound sheet ok (put_after r u v gap carry) e =
    let p = and_parts _ _ e in
    let q = and_parts _ _ p.1 in
    let s = and_parts _ _ q.1 in
    let t = and_parts _ _ s.1 in
    rule_kept sheet ok r (After u v gap carry) (q.0, s.0, leb-true _ _ t.0, leb-true _ _ t.1)
asked_sound sheet ok (put_within r u v hours) e =
    let p = and_parts _ _ e in
    let q = and_parts _ _ p.1 in
    let s = and_parts _ _ q.1 in
    rule_kept sheet ok r (Within u v hours) (q.0, s.0, leb-true _ _ s.1)
asked_sound sheet ok (put_at r v hour) e =
    let p = and_parts _ _ e in
    let q = and_parts _ _ p.1 in
    rule_kept sheet ok r (At v hour) (q.0, leb-true _ _ q.1)
asked_sound sheet ok (remove_rule r) e = absurd (false≢true e)
asked_sound sheet ok (set_period hours) e = hours_kept sheet ok hours sheet.span (from_test _ _ _ e) ok.rules.span
asked_sound sheet ok (set_span hours) e = hours_kept sheet ok sheet.period hours ok.rules.period (from_test _ _ _ e)
asked_sound sheet ok (set_vessels kind count) e = absurd (false≢true e)

pub get_or_same : {X : Type 0} (k n : ℕ) (x : X) → get_or (replicate k x) n x ≡ x
get_or_same zero n x = refl
get_or_same (suc k) zero x = refl
get_or_same (suc k) (suc n) x = get_or_same k n x

pub numbered_same : {X : Type 0} (k n : ℕ) (x : X) → numbered x (replicate k x) n ≡ x
numbered_same k zero x = refl
numbered_same k (suc n) x = get_or_same k n x

-- an empty planner's sheet keeps every limit
pub empty_sound : FullSound empty_sheet
empty_sound = record {
  rules = record {
    period = (lit≤ tt, lit≤ tt);
    span = (lit≤ tt, lit≤ tt);
    step_count = refl;
    rule_count = refl;
    steps = λ n. subst StepFits (sym (told_step empty_sheet n ∙ ap (option_map without_name) (numbered_same 31 n None))) tt;
    rules = λ r. subst (RuleFits (HasStep (rule_sheet empty_sheet))) (sym (numbered_same 96 r Free)) tt;
  };
  names = λ n. subst NameFits (sym (numbered_same 31 n None)) tt;
  kinds = refl;
  counts = λ kind. subst (λ c. c ≤ 16) (sym (get_or_same 8 kind 0)) (lit≤ tt);
}
