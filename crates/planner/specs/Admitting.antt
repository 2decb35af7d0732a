-- What comes of entering a command without a search for loops. Assumes nothing.
use Rattle.std.specs.Prelude.{◌≡◌, ℕ, ◌<◌, ◌≤◌, List, length, Some, None, Ok, Err, Option, Result}
use Rattle.book.specs.Commands.{Instruction}
use Rattle.kinds.specs.declared.alone.Hours.{Hours}
use Rattle.loops.specs.Loops.{RestKept}
use Rattle.sheet.specs.declared.forms.Sheet.{Sheet}
use Rattle.planner.specs.Entering.{sheet_of}
use Rattle.planner.specs.Refusals.{refusal_number}
use Rattle.planner.specs.Rules.{Possible, Outcome}
use Rattle.planner.specs.declared.planner.Planner.{Planner}
use Rattle.planner.specs.declared.refusals.Refusal.{Refusal}
use Rattle.planner.specs.declared.refusals.Refusal.TheVariants.{Faulty, NoTimetable, Unread, TooShort}

-- the number of a refusal, if there is one
abbrev pub number_in : Result (Unit {0}) Refusal → Option ℕ
number_in (Ok done) = None
number_in (Err refusal) = Some (refusal_number refusal)

-- The working chart has its room: what the rules say comes of the command.
pub record Ruled (sheet : Sheet) (i : Instruction) (before after : List Hours) (now_sheet : Sheet) (r : Result (Unit {0}) Refusal) : Type 0 where
  pub outcome : Outcome sheet i (number_in r) now_sheet
  pub working : RestKept before after

-- A working chart that is too short is refused by 30, and all is as it was.
pub record Admitted (sheet : Sheet) (i : Instruction) (before after : List Hours) (now_sheet : Sheet) (r : Result (Unit {0}) Refusal) : Type 0 where
  pub if_short : length before < 1024 → (number_in r ≡ Some 30) × (now_sheet ≡ sheet) × (after ≡ before)
  pub if_long : 1024 ≤ length before → Ruled sheet i before after now_sheet r

-- A planner with a sheet, if that has a lawful timetable, where the working chart has its room.
abbrev pub PlannerPlainly : Sheet → List Hours → List Hours → Result Planner Refusal → Type 0
PlannerPlainly sheet before after (Ok planner) = (sheet_of planner ≡ sheet) × Possible sheet × RestKept before after
PlannerPlainly sheet before after (Err (Faulty fault)) = ⊥
PlannerPlainly sheet before after (Err (NoTimetable count)) = (Possible sheet → ⊥) × RestKept before after
PlannerPlainly sheet before after (Err (Unread fault)) = ⊥
PlannerPlainly sheet before after (Err TooShort) = ⊥
