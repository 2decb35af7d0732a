-- One call of a run, with what is noted of it behind the notes before. Assumes nothing.
use Rattle.std.specs.Prelude.{◌≡◌, ℕ, List, [], ◌++◌, map, take, slice_index_or}
use Rattle.sheet.specs.Edits.{empty_sheet}
use Rattle.sheet.specs.declared.forms.Sheet.{Sheet}
use Rattle.runs.specs.Runs.{Asked, asked_by, CallDone, RunDone}
use Rattle.book.specs.declared.commands.Command.TheVariants.{AddStep}
use Rattle.runs.specs.declared.calls.Call.{Call}
use Rattle.runs.specs.declared.calls.Call.TheVariants.{Enter}
use Rattle.runs.specs.declared.calls.Note.{Note}

-- The call at a place of a list, counted from 0. What lies past the list's end is never asked for; a command without a
-- meaning stands for it.
abbrev pub asked_at : List Call → ℕ → Asked
asked_at calls k = asked_by (slice_index_or calls k (Enter (AddStep 0 0 0 (record { ref_ptr = (0, 0); now = [] }))))

pub record CallTaken (sheet : Sheet) (asked : Asked) (call : ℕ) (before after : List Note) (after_sheet : Sheet) : Type 0 where
  pub told : List Note
  pub done : CallDone sheet asked call after_sheet told
  pub added : after ≡ before ++ told

-- the first k of some calls were carried out
pub record Running (sheet : Sheet) (calls : List Call) (before : List Note) (k : ℕ) (sheet_now : Sheet) (notes : List Note) : Type 0 where
  pub told : List Note
  pub done : RunDone sheet 0 (map asked_by (take k calls)) sheet_now told
  pub added : notes ≡ before ++ told

-- a run of calls on an empty planner, of which there is exactly one outcome
pub record RunTaken (calls : List Asked) (after : Sheet) (notes : List Note) : Type 0 where
  pub done : RunDone empty_sheet 0 calls after notes
  pub only : (other : Sheet) (others : List Note) → RunDone empty_sheet 0 calls other others → (other ≡ after) × (others ≡ notes)
