-- Marks on the steps that a card has brought so far. Assumes nothing.
use Rattle.std.specs.Prelude.{ℕ, Bool, true, false, List, slice_index_or, slice_set}
use Rattle.book.specs.Reading.{Placed}
use Rattle.book.specs.declared.reading.Entry.{Entry}
use Rattle.book.specs.Commands.{Instruction, said, add_step, remove_step, set_duration, put_after, put_within, put_at, remove_rule, set_period, set_span, set_vessels}

abbrev pub marked : List Bool → ℕ → Bool
marked marks n = slice_index_or marks n false

abbrev pub marks_after : List Bool → Instruction → List Bool
marks_after marks (add_step n duration kind name) = slice_set marks n true
marks_after marks (remove_step n) = marks
marks_after marks (set_duration n duration) = marks
marks_after marks (put_after r u v gap carry) = marks
marks_after marks (put_within r u v hours) = marks
marks_after marks (put_at r v hour) = marks
marks_after marks (remove_rule r) = marks
marks_after marks (set_period hours) = marks
marks_after marks (set_span hours) = marks
marks_after marks (set_vessels kind count) = marks

-- an entry of the code, with what its command says
abbrev pub placed_in : Entry → Placed
placed_in entry = record { offset = entry.offset; instruction = said entry.command }
