use Rattle.std.proofs.Common.{◌≡◌, ◌-◌, length, string_bytes}
use Rattle.book.specs.Reading.{book_of, place_of}
use Rattle.transcript.proofs.Lines.{Sofar}
use Rattle.transcript.proofs.pages.add_items.Given as goal

abbrev pub invariant-loop-item : goal.invariant-loop-item
invariant-loop-item l = (book_of l.reader ≡ book_of l.initial.reader) × Sofar (string_bytes l.initial.text) (book_of l.initial.reader) (place_of l.initial.reader) (place_of l.reader) (string_bytes l.text)

abbrev pub decreases-loop-item : goal.decreases-loop-item
decreases-loop-item l = length (book_of l.reader) - place_of l.reader
