-- There is only one proof that a sheet is sound, so a mere proof of it is as good. Assumes nothing.
use Rattle.std.specs.Prelude.{ℕ, true, Some, None, Option}
use Rattle.std.proofs.Math.Bool.{Bool-set}
use mathlib.Core.HLevel.{Unit-prop, ×_prop, Π_prop}
use Rattle.std.proofs.Math.Logic.{∥∥₁_elim}
use Rattle.std.proofs.Math.Bridge.{le_prop}
use Rattle.std.proofs.Math.Nat.{ℕ_set}
use Rattle.sheet.specs.declared.forms.Rule.{Rule}
use Rattle.sheet.specs.declared.forms.Rule.TheVariants.{Free, After, Within, At}
use Rattle.sheet.specs.declared.forms.Sheet.{Sheet}
use Rattle.sheet.specs.Sheets.{RuleSheet, step_at, rule_at, has_step, HasStep, rule_sheet}
use Rattle.sheet.specs.Limits.{From, StepFits, RuleFits, Sound, SoundSheet, FullSound}

from_prop : {low high n : ℕ} → IsProp (From low high n)
from_prop = ×_prop le_prop le_prop

step_fits_prop : (o : Option (ℕ × ℕ)) → IsProp (StepFits o)
step_fits_prop None = Unit-prop
step_fits_prop (Some told) = ×_prop from_prop le_prop

rule_fits_prop : (s : RuleSheet) (rule : Rule) → IsProp (RuleFits (HasStep s) rule)
rule_fits_prop s Free x y = Unit-prop x y
rule_fits_prop s (After u v gap carry) x y =
    λ i. (
      Bool-set (has_step s u) true x.0 y.0 i,
      Bool-set (has_step s v) true x.1 y.1 i,
      le_prop x.2 y.2 i,
      le_prop x.3 y.3 i,
    )
rule_fits_prop s (Within u v hours) x y =
    λ i. (
      Bool-set (has_step s u) true x.0 y.0 i,
      Bool-set (has_step s v) true x.1 y.1 i,
      le_prop x.2 y.2 i,
    )
rule_fits_prop s (At v hour) x y = ×_prop (Bool-set (has_step s v) true) le_prop x y

pub sound_prop : (s : RuleSheet) → IsProp (Sound s)
sound_prop s x y =
    λ i.
    record {
      period = from_prop x.period y.period i;
      span = from_prop x.span y.span i;
      step_count = ℕ_set _ _ x.step_count y.step_count i;
      rule_count = ℕ_set _ _ x.rule_count y.rule_count i;
      steps = Π_prop (λ n. step_fits_prop (step_at s n)) x.steps y.steps i;
      rules = Π_prop (λ r. rule_fits_prop s (rule_at s r)) x.rules y.rules i;
    }

-- What a checked sheet stands for.
abbrev pub told_by : (sheet : Sheet) → ∥ FullSound sheet ∥₁ → SoundSheet
told_by sheet ok =
    record { told = rule_sheet sheet; sound = ∥∥₁_elim ok (sound_prop (rule_sheet sheet)) (λ full. full.rules) }
