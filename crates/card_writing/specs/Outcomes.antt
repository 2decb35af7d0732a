-- What becomes of a buffer into which a card is written. Assumes nothing.
use Rattle.std.specs.Prelude.{◌≡◌, ℕ, ◌+◌, ◌≤◌, cond, List, ◌++◌, length, take, drop, is_ok, Ok, Err, Result, nat_le}
use Rattle.book.specs.Writing.{overwritten}
use Rattle.book.specs.declared.writing.Unwritten.{Unwritten}
use Rattle.book.specs.declared.writing.Unwritten.TheVariants.{TooShort}
use Rattle.card.specs.Cards.{verdict, stands_for}
use Rattle.sheet.specs.declared.forms.Sheet.{Sheet}
use Rattle.card_writing.specs.Contents.{unstocked}

-- Some bytes, for which there was room, stand in a buffer from one place to another; the rest of it is as it was.
pub record Put (old : List ℕ) (place : ℕ) (bytes : List ℕ) (end : ℕ) (new : List ℕ) : Type 0 where
  pub room : place + length bytes ≤ length old
  pub reached : end ≡ place + length bytes
  pub bytes_after : new ≡ overwritten old place bytes

-- The most bytes that a card of a sheet takes: 3 for the period, 3 for the span, 13 for each of 31 steps and 7 for
-- each of 96 rules. A buffer for a card has at least as many.
abbrev pub card_room : ℕ
card_room = 1081

-- A card was written to the front of a buffer, what lies behind it is as it was, and its length is told. A buffer
-- that has not the room for every card is refused and left as it was.
pub record CardWritten (card before : List ℕ) (r : Result ℕ Unwritten) (after : List ℕ) : Type 0 where
  pub answer : r ≡ cond (nat_le card_room (length before)) (Ok (length card)) (Err TooShort)
  pub bytes_after : after ≡ cond (is_ok r) (card ++ drop (length card) before) before

-- The bytes that a buffer has from its front to the length that was told are a card without a fault, short enough,
-- which stands for the sheet with its names.
abbrev pub StandsFor : Sheet → Result ℕ Unwritten → List ℕ → Type 0
StandsFor sheet r after =
    (size : ℕ) → r ≡ Ok size → (size ≤ card_room) × (verdict (take size after) ≡ stands_for (unstocked sheet))
