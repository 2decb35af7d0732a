-- The limits that every sheet keeps. Assumes nothing.
use Rattle.std.specs.Prelude.{◌≡◌, ℕ, ◌<◌, ◌≤◌, length, Some, None, Option, slice_index}
use Rattle.sheet.specs.declared.forms.Rule.{Rule}
use Rattle.sheet.specs.declared.forms.Rule.TheVariants.{Free, After, Within, At}
use Rattle.sheet.specs.declared.forms.Step.{Step}
use Rattle.sheet.specs.declared.forms.Sheet.{Sheet}
use Rattle.sheet.specs.Sheets.{RuleSheet, numbered, step_at, rule_at, HasStep, rule_sheet}

-- A number from low to high, both included.
abbrev pub From : ℕ → ℕ → ℕ → Type 0
From low high n = (low ≤ n) × (n ≤ high)

-- A step takes 1 to 999 hours in a vessel of one of the kinds 0 to 7.
abbrev pub StepFits : Option (ℕ × ℕ) → Type 0
StepFits None = Unit {0}
StepFits (Some told) = From 1 999 told.0 × (told.1 ≤ 7)

-- A rule's numbers keep their limits, and the steps that it names are there.
abbrev pub RuleFits : (ℕ → Type 0) → Rule → Type 0
RuleFits There Free = Unit {0}
RuleFits There (After u v gap carry) = There u × There v × (gap ≤ 999) × (carry ≤ 7)
RuleFits There (Within u v hours) = There u × There v × (hours ≤ 999)
RuleFits There (At v hour) = There v × (hour ≤ 1999)

-- A sheet is sound if it keeps every limit and has each step that a rule names.
pub record Sound (s : RuleSheet) : Type 0 where
  pub period : From 1 999 s.period
  pub span : From 1 2000 s.span
  pub step_count : length s.steps ≡ 31
  pub rule_count : length s.rules ≡ 96
  pub steps : (n : ℕ) → StepFits (step_at s n)
  pub rules : (r : ℕ) → RuleFits (HasStep s) (rule_at s r)

-- A sheet with the proof that it is sound: what a rule source stands for.
pub record SoundSheet : Type 0 where
  pub told : RuleSheet
  pub sound : Sound told

-- Each of a name's eight bytes is a printable sign, from the space to the tilde.
abbrev pub NameFits : Option Step → Type 0
NameFits None = Unit {0}
NameFits (Some step) = (length step.name ≡ 8) × ((k : ℕ) → k < 8 → From 0x20 0x7E (slice_index step.name k))

-- The limits of a full sheet: those of its rule sheet, of its names, and at most 16 vessels of each kind.
pub record FullSound (sheet : Sheet) : Type 0 where
  pub rules : Sound (rule_sheet sheet)
  pub names : (n : ℕ) → NameFits (numbered None sheet.steps n)
  pub kinds : length sheet.stock ≡ 8
  pub counts : (kind : ℕ) → slice_index sheet.stock kind ≤ 16
