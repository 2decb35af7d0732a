-- The listing of two books. Assumes nothing.
use Rattle.std.specs.Prelude.{◌≡◌, ℕ, ◌<◌, ◌≤◌, List, [], ◌∷◌, ◌++◌, length, Err, codes, decimal}
use Rattle.std.specs.List.{flat_map}
use Rattle.book.specs.Reading.{Item}
use Rattle.book.specs.Walks.{Walk}
use Rattle.book.specs.declared.faults.Cause.TheVariants.{TooLong}
use Rattle.transcript.specs.Sentences.{line}

-- What is told of a book: the items of its walk, or alone that it is too long.
pub data Told (book : List ℕ) : List Item → Type 0 where
  walked : {items : List Item} → length book ≤ 4096 → Walk book 0 items → Told book items
  refused : 4096 < length book → Told book (Err (record { cause = TooLong; offset = 0 }) ∷ [])

-- a line for each item of a book from a place on, behind some text
pub record Continued (before book : List ℕ) (place : ℕ) (after : List ℕ) : Type 0 where
  pub items : List Item
  pub walk : Walk book place items
  pub lines : after ≡ before ++ flat_map line items

-- a line for each item that is told of a book, behind some text
pub record Extended (before book after : List ℕ) : Type 0 where
  pub items : List Item
  pub told : Told book items
  pub lines : after ≡ before ++ flat_map line items

-- the line above a book's items: its title and length
abbrev pub heading : List ℕ → List ℕ → List ℕ
heading title book = title ++ (codes ", " ++ (decimal (length book) ++ codes " bytes\n"))

-- The listing of two books: what the office's book tells, and then what the tablet's tells.
pub record Listing (office tablet text : List ℕ) : Type 0 where
  pub office_text : List ℕ
  pub tablet_text : List ℕ
  pub of_office : Extended (heading (codes "office") office) office office_text
  pub of_tablet : Extended (heading (codes "tablet") tablet) tablet tablet_text
  pub whole : text ≡ office_text ++ tablet_text

-- two books have one listing
abbrev pub OneListing : List ℕ → List ℕ → Type 0
OneListing office tablet = (text other : List ℕ) → Listing office tablet text → Listing office tablet other → text ≡ other
