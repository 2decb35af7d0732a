-- A command is read back from its spelling. Assumes nothing.
use Rattle.std.proofs.Common.{◌≡◌, ℕ, ◌+◌, ◌*◌, ◌/◌, ◌%◌, ◌≤◌, true, List, ◌∷◌, ◌++◌, length, Ok, refl, ap, ◌∙◌, arith, length-append, ne_eqb, eqb-true, le-leb}
use native.Mathlib.Nat.{mod-add-div'}
use Rattle.std.proofs.lemmas.List.{take_at}
use Rattle.book.specs.Commands.{Instruction, add_step, remove_step, set_duration, put_after, put_within, put_at, remove_rule, set_period, set_span, set_vessels, width, whole, opened_by, decoded}
use Rattle.book.specs.Writing.{two, spelled, eight_bytes}

whole_is : (bs : List ℕ) (i : Instruction) → width i ≤ length bs → whole bs i ≡ Ok i
whole_is bs i h = rw (le-leb _ _ h)

by_first : (b : ℕ) (bs : List ℕ) → decoded (b ∷ bs) ≡ opened_by b (b ∷ bs)
by_first b bs = rw (ne_eqb (length (b ∷ bs)) 0 (omega arith))

-- an instruction whose bytes are all there, up to its operands in two bytes and its name
reads : (b : ℕ) (bs : List ℕ) (i j : Instruction) → opened_by b (b ∷ bs) ≡ whole (b ∷ bs) i → width i ≤ length (b ∷ bs) → i ≡ j → decoded (b ∷ bs) ≡ Ok j
reads b bs i j opened fits same = by_first b bs ∙ opened ∙ whole_is (b ∷ bs) i fits ∙ ap Ok same

-- the number that two bytes were made of
both : (n : ℕ) → n / 256 * 256 + n % 256 ≡ n
both n = omega (arith, mod-add-div' n 256)

-- Every instruction whose name has eight bytes takes its width, and is read back from its spelling, whatever stands
-- behind it.
pub reads_back : (i : Instruction) (rest : List ℕ) → eight_bytes i ≡ true → (length (spelled i) ≡ width i) × (decoded (spelled i ++ rest) ≡ Ok i)
reads_back (add_step step duration kind name) rest e =
    let eight = eqb-true (length name) 8 e in
    let long = length-append name rest in (
      omega arith,
      reads 0x01 (step ∷ two duration ++ kind ∷ (name ++ rest)) _ _ refl (omega arith) (λ i. add_step step (both duration i) kind (take_at name rest 8 eight i)),
    )
reads_back (remove_step step) rest e = (refl, reads 0x02 (step ∷ rest) _ _ refl (omega arith) refl)
reads_back (set_duration step duration) rest e = (refl, reads 0x03 (step ∷ two duration ++ rest) _ _ refl (omega arith) (ap (set_duration step) (both duration)))
reads_back (put_after rule u v gap carry) rest e = (refl, reads 0x04 (rule ∷ u ∷ v ∷ two gap ++ carry ∷ rest) _ _ refl (omega arith) (ap (λ n. put_after rule u v n carry) (both gap)))
reads_back (put_within rule u v hours) rest e = (refl, reads 0x05 (rule ∷ u ∷ v ∷ two hours ++ rest) _ _ refl (omega arith) (ap (put_within rule u v) (both hours)))
reads_back (put_at rule v hour) rest e = (refl, reads 0x06 (rule ∷ v ∷ two hour ++ rest) _ _ refl (omega arith) (ap (put_at rule v) (both hour)))
reads_back (remove_rule rule) rest e = (refl, reads 0x07 (rule ∷ rest) _ _ refl (omega arith) refl)
reads_back (set_period period) rest e = (refl, reads 0x08 (two period ++ rest) _ _ refl (omega arith) (ap set_period (both period)))
reads_back (set_span span) rest e = (refl, reads 0x09 (two span ++ rest) _ _ refl (omega arith) (ap set_span (both span)))
reads_back (set_vessels kind count) rest e = (refl, reads 0x0A (kind ∷ count ∷ rest) _ _ refl (omega arith) refl)
