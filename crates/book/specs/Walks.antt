-- A whole book, item by item. Assumes nothing.
use Rattle.std.specs.Prelude.{◌≡◌, ℕ, zero, suc, ◌+◌, ◌-◌, List, [], ◌∷◌, length, Some, None, Ok, Err, Option}
use Rattle.book.specs.Commands.{width}
use Rattle.book.specs.Reading.{Item, next, onward}

-- The items that a reader tells one after another, from a place to the book's end.
pub data Walk (book : List ℕ) : ℕ → List Item → Type 0 where
  ends : {place : ℕ} → next book place ≡ None → Walk book place []
  tells : {place : ℕ} {item : Item} {items : List Item} → next book place ≡ Some item → Walk book (onward book place) items → Walk book place (item ∷ items)

-- an item, if there is one, before the items behind it
abbrev pub followed_by : Option Item → List Item → List Item
followed_by None items = []
followed_by (Some item) items = item ∷ items

-- The items of a book from a place on, at most so many. A command takes at least one byte, so a book has at most as
-- many items as bytes.
abbrev pub items_from : ℕ → List ℕ → ℕ → List Item
items_from zero book place = []
items_from (suc n) book place = followed_by (next book place) (items_from n book (onward book place))

unfoldable pub items : List ℕ → List Item
items book = items_from (length book) book 0

-- how many bytes the commands among the items take
abbrev pub read : List Item → ℕ
read [] = 0
read (Ok entry ∷ items) = width entry.instruction + read items
read (Err fault ∷ items) = read items

-- how many bytes are dropped: those from a fault to the book's end
abbrev pub dropped : List ℕ → List Item → ℕ
dropped book [] = 0
dropped book (Ok entry ∷ items) = dropped book items
dropped book (Err fault ∷ items) = length book - fault.offset + dropped book items

-- The items of a book are its walk, and its only one, and no byte is lost on it: each is a part of a command that
-- was read, or is dropped after a fault.
pub record Walkable (book : List ℕ) : Type 0 where
  pub walk : Walk book 0 (items book)
  pub only : (others : List Item) → Walk book 0 others → others ≡ items book
  pub no_loss : read (items book) + dropped book (items book) ≡ length book
