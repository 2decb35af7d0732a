-- How a command is written into a buffer. Assumes nothing.
use Rattle.std.specs.Prelude.{◌≡◌, ℕ, ◌+◌, ◌/◌, ◌%◌, Bool, true, cond, List, [], ◌∷◌, ◌++◌, length, take, drop, is_ok, Ok, Err, Result, ◌==◌, nat_le}
use Rattle.book.specs.Commands.{Instruction, add_step, remove_step, set_duration, put_after, put_within, put_at, remove_rule, set_period, set_span, set_vessels, width, decoded}
use Rattle.book.specs.declared.writing.Unwritten.{Unwritten}
use Rattle.book.specs.declared.writing.Unwritten.TheVariants.{NameLength, TooShort}

-- a number in two bytes, high byte first
abbrev pub two : ℕ → List ℕ
two n = n / 256 ∷ n % 256 ∷ []

-- the bytes of a command: its own byte, then its operands in the order of the format
abbrev pub spelled : Instruction → List ℕ
spelled (add_step step duration kind name) = 0x01 ∷ step ∷ two duration ++ kind ∷ name
spelled (remove_step step) = 0x02 ∷ step ∷ []
spelled (set_duration step duration) = 0x03 ∷ step ∷ two duration
spelled (put_after rule u v gap carry) = 0x04 ∷ rule ∷ u ∷ v ∷ two gap ++ carry ∷ []
spelled (put_within rule u v hours) = 0x05 ∷ rule ∷ u ∷ v ∷ two hours
spelled (put_at rule v hour) = 0x06 ∷ rule ∷ v ∷ two hour
spelled (remove_rule rule) = 0x07 ∷ rule ∷ []
spelled (set_period period) = 0x08 ∷ two period
spelled (set_span span) = 0x09 ∷ two span
spelled (set_vessels kind count) = 0x0A ∷ kind ∷ count ∷ []

-- whether a command has a spelling: the name of a step takes eight bytes
abbrev pub eight_bytes : Instruction → Bool
eight_bytes (add_step step duration kind name) = length name == 8
eight_bytes (remove_step step) = true
eight_bytes (set_duration step duration) = true
eight_bytes (put_after rule u v gap carry) = true
eight_bytes (put_within rule u v hours) = true
eight_bytes (put_at rule v hour) = true
eight_bytes (remove_rule rule) = true
eight_bytes (set_period period) = true
eight_bytes (set_span span) = true
eight_bytes (set_vessels kind count) = true

-- some bytes with others written over them from a place on
abbrev pub overwritten : List ℕ → ℕ → List ℕ → List ℕ
overwritten old place new = take place old ++ (new ++ drop (place + length new) old)

-- the place behind so many bytes, if a buffer has room for them from a place on
abbrev pub room_for : ℕ → ℕ → ℕ → Result ℕ Unwritten
room_for room place n = cond (nat_le (place + n) room) (Ok (place + n)) (Err TooShort)

-- some bytes were written at a place of a buffer, or refused where they do not fit, which leaves the buffer as it was
pub record Overwrote (old : List ℕ) (place : ℕ) (bytes : List ℕ) (r : Result ℕ Unwritten) (new : List ℕ) : Type 0 where
  pub answer : r ≡ room_for (length old) place (length bytes)
  pub after : new ≡ cond (is_ok r) (overwritten old place bytes) old

-- The answer to writing an instruction at a place of a buffer of so many bytes: the place behind it, or a refusal
-- where it does not fit or has no spelling, in this order.
abbrev pub written : ℕ → ℕ → Instruction → Result ℕ Unwritten
written room place i = cond (nat_le (place + width i) room) (cond (eight_bytes i) (Ok (place + width i)) (Err NameLength)) (Err TooShort)

-- The number of each refusal to write.
abbrev pub unwritten_number : Unwritten → ℕ
unwritten_number NameLength = 6
unwritten_number TooShort = 30

-- An instruction was written at a place of a buffer, or refused: the answer; the buffer, changed at the command's
-- bytes alone, or as it was after a refusal.
pub record Wrote (old : List ℕ) (place : ℕ) (i : Instruction) (r : Result ℕ Unwritten) (new : List ℕ) : Type 0 where
  pub answer : r ≡ written (length old) place i
  pub after : new ≡ cond (is_ok r) (overwritten old place (spelled i)) old

-- What was written is read back from its place, whatever stands behind it.
abbrev pub ReadsBack : ℕ → Instruction → Result ℕ Unwritten → List ℕ → Type 0
ReadsBack place i r new = is_ok r ≡ true → decoded (drop place new) ≡ Ok i
