use Rattle.std.proofs.Common.{◌≡◌, ℕ, ◌-◌, List, length}
use Rattle.book.specs.Reading.{Item, book_of, place_of}
use Rattle.book.specs.Walks.{Walk}
use Rattle.card.proofs.Finding.{Looked}
use Rattle.card.specs.Cards.{judged, stands_for}
use Rattle.card.specs.Finds.{answers_of}
use Rattle.card.specs.declared.order.Stage.TheVariants.{Period}
use Rattle.sheet.specs.Edits.{empty_sheet}
use Rattle.sheet.specs.declared.forms.Sheet.{Sheet}
use Rattle.card.proofs.lookups.find_in.Given as goal

abbrev pub invariant-loop-item : goal.invariant-loop-item
invariant-loop-item l =
    (book_of l.reader ≡ book_of l.initial.reader)
    × ((end : ℕ) (items : List Item) (sheet : Sheet) → Walk (book_of l.initial.reader) (place_of l.initial.reader) items → judged end Period empty_sheet items ≡ stands_for sheet → Looked (book_of l.initial.reader) end (place_of l.initial.reader) (place_of l.reader) l.step l.rule (answers_of l.found))

abbrev pub decreases-loop-item : goal.decreases-loop-item
decreases-loop-item l = length (book_of l.reader) - place_of l.reader
