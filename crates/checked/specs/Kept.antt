-- The limits of a full sheet, table by table. Assumes nothing.
use Rattle.std.specs.Prelude.{◌≡◌, ℕ, ◌<◌, ◌≤◌, Bool, true, List, Option, slice_index_or}
use Rattle.std.specs.Option.{option_map}
use Rattle.sheet.specs.declared.forms.Rule.{Rule}
use Rattle.sheet.specs.declared.forms.Sheet.{Sheet}
use Rattle.sheet.specs.declared.forms.Step.{Step}
use Rattle.sheet.specs.Sheets.{HasStep, rule_sheet, without_name}
use Rattle.sheet.specs.Limits.{StepFits, NameFits, RuleFits}

-- A record of the step table, if it is there, keeps its limits.
abbrev pub StepKept : Option Step → Type 0
StepKept step = StepFits (option_map without_name step) × NameFits step

-- A rule keeps its limits on a full sheet.
abbrev pub RuleKept : Sheet → Rule → Type 0
RuleKept sheet = RuleFits (HasStep (rule_sheet sheet))

abbrev pub CountKept : ℕ → Type 0
CountKept count = count ≤ 16

-- What holds of each of the first entries of a table; past its end stands none.
abbrev pub EachOf : {X : Type 0} → ℕ → X → (X → Type 0) → List X → Type 0
EachOf count none P xs = (k : ℕ) → k < count → P (slice_index_or xs k none)

-- The answer to whether P holds: yes only if it does, and yes if it does.
abbrev pub TellsWhether : Type 0 → Bool → Type 0
TellsWhether P r = (r ≡ true → ∥ P ∥₁) × (P → r ≡ true)
