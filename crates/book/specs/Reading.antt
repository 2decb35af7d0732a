-- What a reader tells of a book, step by step. Assumes nothing.
use Rattle.std.specs.Prelude.{◌≡◌, ℕ, ◌+◌, ◌<◌, ◌≤◌, cond, List, length, drop, Some, None, Ok, Err, Option, Result, nat_lt}
use Rattle.book.specs.Commands.{Instruction, said, width, decoded}
use Rattle.book.specs.declared.faults.Cause.{Cause}
use Rattle.book.specs.declared.faults.Cause.TheVariants.{TooLong}
use Rattle.book.specs.declared.faults.Fault.{Fault}
use Rattle.book.specs.declared.reading.Entry.{Entry}
use Rattle.book.specs.declared.reading.Reader.{Reader}

-- a command, and the offset of its first byte in the book
pub record Placed : Type 0 where
  pub offset : ℕ
  pub instruction : Instruction

-- what a reader tells at one step: a command in its place, or the fault that ends the reading
abbrev pub Item : Type 0
Item = Result Placed Fault

-- what is told of a place, by what is decoded there
abbrev pub placed : ℕ → Result Instruction Cause → Item
placed place (Ok i) = Ok (record { offset = place; instruction = i })
placed place (Err cause) = Err (record { cause = cause; offset = place })

-- the next item of a book from a place on; none where the book has ended
abbrev pub next : List ℕ → ℕ → Option Item
next book place = cond (nat_lt place (length book)) (Some (placed place (decoded (drop place book)))) None

-- behind the command that was decoded; after a fault at the end, so that the rest of the book is dropped
abbrev pub behind : ℕ → ℕ → Result Instruction Cause → ℕ
behind place end (Ok i) = place + width i
behind place end (Err cause) = end

-- the place from which the item after the next is read
abbrev pub onward : List ℕ → ℕ → ℕ
onward book place = cond (nat_lt place (length book)) (behind place (length book) (decoded (drop place book))) place

-- the answer of the code's reader, with what its command says
abbrev pub item_of : Result Entry Fault → Item
item_of (Ok e) = Ok (record { offset = e.offset; instruction = said e.command })
item_of (Err f) = Err f

abbrev pub told : Option (Result Entry Fault) → Option Item
told None = None
told (Some r) = Some (item_of r)

-- the book that a reader walks, and its place in it
abbrev pub book_of : Reader → List ℕ
book_of r = r.book.now

abbrev pub place_of : Reader → ℕ
place_of r = r.place

-- A book has at most 4096 bytes: a reader of one stands at its front, and a longer one is refused at offset 0.
abbrev pub Opened : List ℕ → Result Reader Fault → Type 0
Opened book (Ok r) = (length book ≤ 4096) × (book_of r ≡ book) × (place_of r ≡ 0)
Opened book (Err f) = (4096 < length book) × (f ≡ record { cause = TooLong; offset = 0 })

-- One step of a reader: it tells the next item, and goes on behind it in the same book.
pub record Stepped (before : Reader) (r : Option (Result Entry Fault)) (after : Reader) : Type 0 where
  pub item : told r ≡ next (book_of before) (place_of before)
  pub place : place_of after ≡ onward (book_of before) (place_of before)
  pub book : book_of after ≡ book_of before
