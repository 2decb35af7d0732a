-- The two halves of entering a command: the sheet asked for, and a planner for it. Assumes nothing.
use Rattle.std.specs.Prelude.{◌≡◌, ℕ, Some, None, Ok, Err, Result}
use Rattle.book.specs.Commands.{Instruction}
use Rattle.changes.specs.Changes.{asked}
use Rattle.changes.specs.Faults.{first_fault}
use Rattle.changes.specs.declared.faults.CommandFault.{CommandFault}
use Rattle.checked.specs.declared.checked.CheckedSheet.{CheckedSheet}
use Rattle.loops.specs.Loops.{LoopWritten}
use Rattle.sheet.specs.Sheets.{rule_sheet}
use Rattle.sheet.specs.Timetables.{Timetable, Lawful}
use Rattle.sheet.specs.declared.forms.Sheet.{Sheet}
use Rattle.planner.specs.Entering.{Buffers, ChartsUsed, sheet_of}
use Rattle.planner.specs.declared.planner.Planner.{Planner}
use Rattle.planner.specs.declared.refusals.Refusal.{Refusal}
use Rattle.planner.specs.declared.refusals.Refusal.TheVariants.{Faulty, NoTimetable, Unread, TooShort}

-- the sheet that a command asks for, or its first fault
abbrev pub AskedFor : Sheet → Instruction → Result CheckedSheet CommandFault → Type 0
AskedFor sheet i (Ok checked) = (first_fault sheet i ≡ None) × (checked.sheet ≡ asked sheet i)
AskedFor sheet i (Err fault) = first_fault sheet i ≡ Some fault

-- a planner with a sheet that has a lawful timetable
pub record Planned (sheet : Sheet) (planner : Planner) (before after : Buffers) : Type 0 where
  pub told : sheet_of planner ≡ sheet
  pub lawful : ∥ ((t : Timetable) × Lawful (rule_sheet sheet) t) ∥₁
  pub charts : ChartsUsed before after
  pub codes : after.codes ≡ before.codes

-- a sheet without one
pub record Unplanned (sheet : Sheet) (count : ℕ) (before after : Buffers) : Type 0 where
  pub none : (t : Timetable) → Lawful (rule_sheet sheet) t → ⊥
  pub charts : ChartsUsed before after
  pub loop : LoopWritten (rule_sheet sheet) before.codes after.codes count

-- A planner for a sheet, where the buffers have their room.
abbrev pub PlannerFor : Sheet → Buffers → Buffers → Result Planner Refusal → Type 0
PlannerFor sheet before after (Ok planner) = Planned sheet planner before after
PlannerFor sheet before after (Err (Faulty fault)) = ⊥
PlannerFor sheet before after (Err (NoTimetable count)) = Unplanned sheet count before after
PlannerFor sheet before after (Err (Unread fault)) = ⊥
PlannerFor sheet before after (Err TooShort) = ⊥
