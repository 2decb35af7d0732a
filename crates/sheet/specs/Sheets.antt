-- The rule sheet: what a rule source stands for. It is a cellar's sheet without the names of its steps and without
-- its stock of vessels. Steps have the numbers 1 to 31 and rules the numbers 1 to 96. Assumes nothing.
use Rattle.std.specs.Prelude.{◌≡◌, ℕ, zero, suc, Bool, true, List, map, is_some, Some, None, Option, slice_index_or}
use Rattle.std.specs.Option.{option_map}
use Rattle.sheet.specs.declared.forms.Rule.{Rule}
use Rattle.sheet.specs.declared.forms.Rule.TheVariants.{Free}
use Rattle.sheet.specs.declared.forms.Step.{Step}
use Rattle.sheet.specs.declared.forms.Sheet.{Sheet}

pub record RuleSheet : Type 0 where
  -- hours from the start of one brew to the start of the next
  pub period : ℕ
  -- hours that one brew may take from its hour zero to the end of its last step
  pub span : ℕ
  -- for step 1, step 2 and so on: absent, or its duration in hours and its vessel kind
  pub steps : List (Option (ℕ × ℕ))
  -- for rule 1, rule 2 and so on: free, or its form
  pub rules : List Rule

-- An entry of a table by its number, which is counted from 1. Number 0 and numbers past the table's end have none.
abbrev pub numbered : {X : Type 0} → X → List X → ℕ → X
numbered none xs zero = none
numbered none xs (suc n) = slice_index_or xs n none

-- Step n, absent or with its duration and kind.
abbrev pub step_at : RuleSheet → ℕ → Option (ℕ × ℕ)
step_at s = numbered None s.steps

-- Rule r, free or with its form.
abbrev pub rule_at : RuleSheet → ℕ → Rule
rule_at s = numbered Free s.rules

abbrev pub has_step : RuleSheet → ℕ → Bool
has_step s n = is_some (step_at s n)

-- Step n is on the sheet.
abbrev pub HasStep : RuleSheet → ℕ → Type 0
HasStep s n = has_step s n ≡ true

-- The hours that an optional step takes; none where it is absent.
abbrev pub hours_of : Option (ℕ × ℕ) → ℕ
hours_of None = 0
hours_of (Some told) = told.0

-- The hours that step n takes; 0 where it is absent.
abbrev pub duration : RuleSheet → ℕ → ℕ
duration s n = hours_of (step_at s n)

-- A place is what a link leads from or to: place 0 is hour zero of the brew and is always there, place n is step n.
abbrev pub present : RuleSheet → ℕ → Bool
present s zero = true
present s (suc n) = has_step s (suc n)

abbrev pub Present : RuleSheet → ℕ → Type 0
Present s n = present s n ≡ true

-- What a source tells of a step's record: all but its name.
abbrev pub without_name : Step → ℕ × ℕ
without_name step = (step.duration, step.kind)

-- The rule sheet of a full sheet: names and stock are forgotten.
abbrev pub rule_sheet : Sheet → RuleSheet
rule_sheet sheet =
    record {
      period = sheet.period;
      span = sheet.span;
      steps = map (option_map without_name) sheet.steps;
      rules = sheet.rules;
    }
