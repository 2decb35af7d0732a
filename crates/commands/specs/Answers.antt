-- What comes of a command on a sheet, lawful timetables aside. Assumes nothing.
use Rattle.std.specs.Prelude.{◌≡◌, Some, None, Ok, Err, Option, Result}
use Rattle.book.specs.Commands.{Instruction}
use Rattle.changes.specs.Changes.{asked}
use Rattle.changes.specs.Faults.{first_fault}
use Rattle.changes.specs.declared.faults.CommandFault.{CommandFault}
use Rattle.sheet.specs.declared.forms.Sheet.{Sheet}

-- All is well unless there is a fault.
abbrev pub unless : Option CommandFault → Result (Unit {0}) CommandFault
unless None = Ok tt
unless (Some fault) = Err fault

-- Without a fault the sheet becomes the one asked for; with one it stays, and the first is told.
abbrev pub Changed : Sheet → Instruction → Sheet → Result (Unit {0}) CommandFault → Type 0
Changed before i after (Ok done) = (first_fault before i ≡ None) × (after ≡ asked before i)
Changed before i after (Err fault) = (first_fault before i ≡ Some fault) × (after ≡ before)
