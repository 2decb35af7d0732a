-- What comes of entering a command. Assumes nothing.
use Rattle.std.specs.Prelude.{◌≡◌, ℕ, ◌≤◌, List, length, Some, None, Ok, Err, Result}
use Rattle.book.specs.Commands.{Instruction}
use Rattle.changes.specs.Changes.{asked}
use Rattle.changes.specs.Faults.{first_fault}
use Rattle.changes.specs.declared.faults.CommandFault.{CommandFault}
use Rattle.kinds.specs.declared.alone.Hours.{Hours}
use Rattle.kinds.specs.declared.together.Counted.{Counted}
use Rattle.loops.specs.Loops.{LoopWritten, RestKept}
use Rattle.sheet.specs.Sheets.{rule_sheet}
use Rattle.sheet.specs.Timetables.{Timetable, Lawful}
use Rattle.sheet.specs.declared.forms.Sheet.{Sheet}
use Rattle.planner.specs.declared.planner.Planner.{Planner}
use Rattle.planner.specs.declared.refusals.Refusal.{Refusal}
use Rattle.planner.specs.declared.refusals.Refusal.TheVariants.{Faulty, NoTimetable, Unread, TooShort}

-- the full sheet of a planner, stock and names included
abbrev pub sheet_of : Planner → Sheet
sheet_of planner = planner.checked.sheet

-- the buffers of a call: two working charts, and the codes
pub record Buffers : Type 0 where
  pub hours : List Hours
  pub counted : List Counted
  pub codes : List ℕ

pub record Room (b : Buffers) : Type 0 where
  pub hours : 1024 ≤ length b.hours
  pub counted : 1024 ≤ length b.counted
  pub codes : 32 ≤ length b.codes

-- What lies behind the working charts is as it was; their contents are free.
pub record ChartsUsed (before after : Buffers) : Type 0 where
  pub hours : RestKept before.hours after.hours
  pub counted : RestKept before.counted after.counted

-- The command has no other fault and the sheet asked for has a lawful timetable: it is the sheet now.
pub record Accepted (sheet : Sheet) (i : Instruction) (before : Buffers) (now_sheet : Sheet) (after : Buffers) : Type 0 where
  pub room : Room before
  pub no_fault : first_fault sheet i ≡ None
  pub lawful : ∥ ((t : Timetable) × Lawful (rule_sheet (asked sheet i)) t) ∥₁
  pub becomes : now_sheet ≡ asked sheet i
  pub charts : ChartsUsed before after
  pub codes : after.codes ≡ before.codes

-- The command has another fault, of which the first is told: all is as it was.
pub record Faulted (sheet : Sheet) (i : Instruction) (fault : CommandFault) (before : Buffers) (now_sheet : Sheet) (after : Buffers) : Type 0 where
  pub room : Room before
  pub first : first_fault sheet i ≡ Some fault
  pub stays : now_sheet ≡ sheet
  pub buffers : after ≡ before

-- The command has no other fault, but the sheet asked for has no lawful timetable: the sheet stays, and the codes of a
-- loop of the sheet asked for, which weighs at least 1, are written.
pub record Impossible (sheet : Sheet) (i : Instruction) (count : ℕ) (before : Buffers) (now_sheet : Sheet) (after : Buffers) : Type 0 where
  pub room : Room before
  pub no_fault : first_fault sheet i ≡ None
  pub none : (t : Timetable) → Lawful (rule_sheet (asked sheet i)) t → ⊥
  pub stays : now_sheet ≡ sheet
  pub charts : ChartsUsed before after
  pub loop : LoopWritten (rule_sheet (asked sheet i)) before.codes after.codes count

-- What comes of entering a command into a planner with a sheet. A command was given, so that none is unread; some
-- buffer being too short leaves all as it was.
abbrev pub Entered : Sheet → Instruction → Buffers → Sheet → Buffers → Result (Unit {0}) Refusal → Type 0
Entered sheet i before now_sheet after (Ok done) = Accepted sheet i before now_sheet after
Entered sheet i before now_sheet after (Err (Faulty fault)) = Faulted sheet i fault before now_sheet after
Entered sheet i before now_sheet after (Err (NoTimetable count)) = Impossible sheet i count before now_sheet after
Entered sheet i before now_sheet after (Err (Unread fault)) = ⊥
Entered sheet i before now_sheet after (Err TooShort) = (Room before → ⊥) × (now_sheet ≡ sheet) × (after ≡ before)
