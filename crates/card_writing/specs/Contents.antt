-- The card of a sheet: its commands in their order, and their bytes. Assumes nothing.
use Rattle.std.specs.Prelude.{ℕ, zero, suc, List, [], ◌∷◌, ◌++◌, replicate, Some, None, Option}
use Rattle.std.specs.List.{flat_map}
use Rattle.book.specs.Commands.{Instruction, said, add_step, put_after, put_within, put_at, set_period, set_span}
use Rattle.book.specs.Writing.{spelled}
use Rattle.book.specs.declared.commands.Command.{Command}
use Rattle.sheet.specs.Sheets.{numbered}
use Rattle.sheet.specs.declared.forms.Rule.{Rule}
use Rattle.sheet.specs.declared.forms.Rule.TheVariants.{Free, After, Within, At}
use Rattle.sheet.specs.declared.forms.Sheet.{Sheet}
use Rattle.sheet.specs.declared.forms.Step.{Step}

-- The command that puts a step on a sheet under a number; none for an absent step.
abbrev pub step_command : ℕ → Option Step → List Instruction
step_command n None = []
step_command n (Some step) = add_step n step.duration step.kind step.name ∷ []

-- The command that puts a rule on a sheet under a number; none where the number is free.
abbrev pub rule_command : ℕ → Rule → List Instruction
rule_command r Free = []
rule_command r (After u v gap carry) = put_after r u v gap carry ∷ []
rule_command r (Within u v hours) = put_within r u v hours ∷ []
rule_command r (At v hour) = put_at r v hour ∷ []

-- What an optional command of the code says.
abbrev pub said_by : Option Command → List Instruction
said_by None = []
said_by (Some command) = said command ∷ []

-- What belongs to the numbers 1, 2 and so on up to a last one, in this order.
unfoldable pub up_to : {X : Type 0} → (ℕ → List X) → ℕ → List X
up_to what zero = []
up_to what (suc n) = up_to what n ++ what (suc n)

-- The commands of the steps that a table has among its first so many, by rising number.
abbrev pub steps_up_to : List (Option Step) → ℕ → List Instruction
steps_up_to table = up_to (λ n. step_command n (numbered None table n))

-- The same of rules.
abbrev pub rules_up_to : List Rule → ℕ → List Instruction
rules_up_to table = up_to (λ r. rule_command r (numbered Free table r))

-- The period and the span.
abbrev pub hours_of : Sheet → List Instruction
hours_of sheet = set_period sheet.period ∷ set_span sheet.span ∷ []

-- A card has the period, the span, then the steps and then the rules, numbers rising in each group.
abbrev pub commands_of : Sheet → List Instruction
commands_of sheet = hours_of sheet ++ (steps_up_to sheet.steps 31 ++ rules_up_to sheet.rules 96)

-- The bytes of commands, one after another.
abbrev pub spelled_all : List Instruction → List ℕ
spelled_all = flat_map spelled

abbrev pub card_of : Sheet → List ℕ
card_of sheet = spelled_all (commands_of sheet)

-- A card tells no stock: the sheet without its vessels.
abbrev pub unstocked : Sheet → Sheet
unstocked sheet =
    record {
      steps = sheet.steps;
      rules = sheet.rules;
      period = sheet.period;
      span = sheet.span;
      stock = replicate 8 0;
    }
