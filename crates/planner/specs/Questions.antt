-- What a planner tells of its sheet. Assumes nothing.
use Rattle.std.specs.Prelude.{◌≡◌, ℕ, cond, List, pos, neg_ℤ, Some, None, Ok, Err, Option, Result, nat_le, slice_index}
use Rattle.changes.specs.Faults.{outside}
use Rattle.changes.specs.declared.faults.CommandFault.{CommandFault}
use Rattle.changes.specs.declared.faults.CommandFault.TheVariants.{StepNumber, StepAbsent, Kind}
use Rattle.sheet.specs.Sheets.{RuleSheet, HasStep, numbered, rule_sheet}
use Rattle.sheet.specs.Waits.{IsWait}
use Rattle.sheet.specs.declared.forms.Sheet.{Sheet}
use Rattle.sheet.specs.declared.forms.Step.{Step}

-- how many vessels of a kind there are; a kind above 7 is refused
abbrev pub count_told : Sheet → ℕ → Result ℕ CommandFault
count_told sheet kind = cond (nat_le kind 7) (Ok (slice_index sheet.stock kind)) (Err Kind)

-- the record of a step, if it is there
abbrev pub present_record : Option Step → Result Step CommandFault
present_record None = Err StepAbsent
present_record (Some step) = Ok step

-- the record of a step: first its number is looked at, then whether it is there
abbrev pub record_told : Sheet → ℕ → Result Step CommandFault
record_told sheet n = cond (outside 1 31 n) (Err StepNumber) (present_record (numbered None sheet.steps n))

abbrev pub name_of : Result Step CommandFault → Result (List ℕ) CommandFault
name_of (Ok step) = Ok step.name
name_of (Err fault) = Err fault

-- the name of a step
abbrev pub name_told : Sheet → ℕ → Result (List ℕ) CommandFault
name_told sheet n = name_of (record_told sheet n)

-- The window of a step: the least wait from hour zero to it, and the least wait back, taken negative. These are its
-- earliest and its latest start over all lawful timetables.
pub record IsWindow (s : RuleSheet) (n : ℕ) (first last : ℕ) : Type 0 where
  pub earliest : IsWait s 0 n (pos first)
  pub latest : IsWait s n 0 (neg_ℤ (pos last))

-- The window of a step is told as a pair, earliest and latest.
abbrev pub WindowTold : Sheet → ℕ → Result (ℕ × ℕ) CommandFault → Type 0
WindowTold sheet n (Ok window) = HasStep (rule_sheet sheet) n × IsWindow (rule_sheet sheet) n window.0 window.1
WindowTold sheet n (Err fault) = name_told sheet n ≡ Err fault
