-- What the two layers make of the sheet below them. Assumes nothing.
use Rattle.std.specs.Prelude.{ℕ, zero, suc, min, max, List, [], ◌∷◌, slice_index_or, slice_set}
use Rattle.std.proofs.Common.{◌∙◌, arith, length-set}
use Rattle.sheet.specs.declared.forms.Rule.TheVariants.{Free}
use Rattle.sheet.specs.Sheets.{RuleSheet, numbered, HasStep}
use Rattle.sheet.specs.Limits.{RuleFits, Sound, SoundSheet}
use Rattle.sheet.specs.Edits.{replaced}

-- The same sheet at another period.
abbrev pub at_period : RuleSheet → ℕ → RuleSheet
at_period s hours = record { period = hours; span = s.span; steps = s.steps; rules = s.rules }

-- The period nearest to a number: 0 counts as 1, and what is above 999 as 999.
abbrev pub as_period : ℕ → ℕ
as_period hours = max 1 (min hours 999)

-- The same sheet with one rule number free; a number outside the table leaves out nothing.
abbrev pub without_rule : RuleSheet → ℕ → RuleSheet
without_rule s r = record { period = s.period; span = s.span; steps = s.steps; rules = replaced s.rules r Free }

-- What holds of a table's entries, and of none, holds of them with one taken out.
cleared : {X : Type 0} (P : X → Type 0) (none : X) → P none → (xs : List X) → ((n : ℕ) → P (slice_index_or xs n none))
    → (k n : ℕ) → P (slice_index_or (slice_set xs k none) n none)
cleared P none p [] each k n = p
cleared P none p (x ∷ xs) each zero zero = p
cleared P none p (x ∷ xs) each zero (suc n) = each (suc n)
cleared P none p (x ∷ xs) each (suc k) zero = each zero
cleared P none p (x ∷ xs) each (suc k) (suc n) = cleared P none p xs (λ m. each (suc m)) k n

pub without_rule_sound : (s : RuleSheet) → Sound s → (r : ℕ) → Sound (without_rule s r)
without_rule_sound s ok zero = ok
without_rule_sound s ok (suc k) =
    record {
      period = ok.period;
      span = ok.span;
      step_count = ok.step_count;
      rule_count = length-set s.rules k Free ∙ ok.rule_count;
      steps = ok.steps;
      rules = rules;
    }
  where
    rules : (r : ℕ) → RuleFits (HasStep s) (numbered Free (slice_set s.rules k Free) r)
    rules zero = tt
    rules (suc r) = cleared (RuleFits (HasStep s)) Free tt s.rules (λ n. ok.rules (suc n)) k r

pub at_period_sound : (s : RuleSheet) → Sound s → (hours : ℕ) → Sound (at_period s (as_period hours))
at_period_sound s ok hours =
    record {
      period = (omega arith, omega arith);
      span = ok.span;
      step_count = ok.step_count;
      rule_count = ok.rule_count;
      steps = ok.steps;
      rules = ok.rules;
    }

-- What a source tells at another period.
abbrev pub other_period : SoundSheet → ℕ → SoundSheet
other_period below hours =
    record {
      told = at_period below.told (as_period hours);
      sound = at_period_sound below.told below.sound hours;
    }

-- What a source tells with one rule left out.
abbrev pub left_out : SoundSheet → ℕ → SoundSheet
left_out below r = record { told = without_rule below.told r; sound = without_rule_sound below.told below.sound r }
