-- What the trade's rules make of one command, from the sheet that stands and the command alone. Assumes nothing.
use Rattle.std.specs.Prelude.{◌≡◌, ℕ, Some, None, Option}
use Rattle.book.specs.Commands.{Instruction}
use Rattle.changes.specs.Changes.{asked}
use Rattle.changes.specs.Faults.{first_fault, fault_number}
use Rattle.changes.specs.declared.faults.CommandFault.{CommandFault}
use Rattle.sheet.specs.Sheets.{rule_sheet}
use Rattle.sheet.specs.Timetables.{Timetable, Lawful}
use Rattle.sheet.specs.declared.forms.Sheet.{Sheet}

-- The sheet has a lawful timetable.
abbrev pub Possible : Sheet → Type 0
Possible sheet = ∥ ((t : Timetable) × Lawful (rule_sheet sheet) t) ∥₁

-- The number that a refused command gets: that of its first other fault, or 14 if it has none.
abbrev pub number_by : Option CommandFault → ℕ
number_by None = 14
number_by (Some fault) = fault_number fault

-- The command is entered: it has no other fault, the sheet asked for has a lawful timetable, and that is the sheet now.
pub record Becomes (sheet : Sheet) (i : Instruction) (after : Sheet) : Type 0 where
  pub no_fault : first_fault sheet i ≡ None
  pub possible : Possible (asked sheet i)
  pub becomes : after ≡ asked sheet i

-- The command is refused: the sheet stays. Without another fault, the sheet asked for has no lawful timetable.
pub record Stays (sheet : Sheet) (i : Instruction) (number : ℕ) (after : Sheet) : Type 0 where
  pub numbered : number ≡ number_by (first_fault sheet i)
  pub impossible : first_fault sheet i ≡ None → Possible (asked sheet i) → ⊥
  pub stays : after ≡ sheet

-- What comes of a command on a sheet: the sheet after it, and the number of its refusal if it is refused.
abbrev pub Outcome : Sheet → Instruction → Option ℕ → Sheet → Type 0
Outcome sheet i None after = Becomes sheet i after
Outcome sheet i (Some number) after = Stays sheet i number after
