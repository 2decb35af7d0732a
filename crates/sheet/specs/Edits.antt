-- The full sheet with one change. Assumes nothing.
use Rattle.std.specs.Prelude.{◌≡◌, ℕ, zero, suc, ◌<◌, ◌⊎◌, List, length, replicate, Some, None, Option, slice_set}
use Rattle.std.specs.Option.{option_map}
use Rattle.sheet.specs.declared.forms.Rule.{Rule}
use Rattle.sheet.specs.declared.forms.Rule.TheVariants.{Free}
use Rattle.sheet.specs.declared.forms.Step.{Step}
use Rattle.sheet.specs.declared.forms.Sheet.{Sheet}
use Rattle.sheet.specs.Sheets.{numbered}

-- Period 24, span 336, no steps, no rules and no vessels.
abbrev pub empty_sheet : Sheet
empty_sheet =
    record { steps = replicate 31 None; rules = replicate 96 Free; period = 24; span = 336; stock = replicate 8 0 }

-- A table with another entry at a number, which is counted from 1; the same table where it has no such number.
abbrev pub replaced : {X : Type 0} → List X → ℕ → X → List X
replaced xs zero x = xs
replaced xs (suc n) x = slice_set xs n x

-- The table has no entry of that number.
abbrev pub Outside : {X : Type 0} → List X → ℕ → Type 0
Outside xs n = (n ≡ 0) ⊎ (length xs < n)

-- Where a table keeps the entry of a number, counted from 0, if it has one.
abbrev pub KeptAt : {X : Type 0} → List X → ℕ → Option ℕ → Type 0
KeptAt xs n None = Outside xs n
KeptAt xs n (Some i) = (n ≡ suc i) × (i < length xs)

-- A step's record with another duration.
abbrev pub lasting : ℕ → Step → Step
lasting hours step = record { duration = hours; kind = step.kind; name = step.name }

abbrev pub with_steps : Sheet → List (Option Step) → Sheet
with_steps sheet table =
    record {
      steps = table;
      rules = sheet.rules;
      period = sheet.period;
      span = sheet.span;
      stock = sheet.stock;
    }

-- The sheet with another record, or none, for step n.
abbrev pub with_step : Sheet → ℕ → Option Step → Sheet
with_step sheet n step = with_steps sheet (replaced sheet.steps n step)

-- The sheet in which step n, if it is there, has another duration.
abbrev pub with_duration : Sheet → ℕ → ℕ → Sheet
with_duration sheet n hours = with_step sheet n (option_map (lasting hours) (numbered None sheet.steps n))

abbrev pub with_rules : Sheet → List Rule → Sheet
with_rules sheet table =
    record {
      steps = sheet.steps;
      rules = table;
      period = sheet.period;
      span = sheet.span;
      stock = sheet.stock;
    }

-- The sheet with another form for rule r, or with that number free.
abbrev pub with_rule : Sheet → ℕ → Rule → Sheet
with_rule sheet r rule = with_rules sheet (replaced sheet.rules r rule)
