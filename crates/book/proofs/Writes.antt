-- What was written into a buffer. Assumes nothing.
use Rattle.std.proofs.Common.{◌≡◌, ℕ, ◌+◌, ◌≤◌, Bool, true, false, cond, leb, List, [], ◌++◌, length, drop, is_ok, Ok, Err, Result, sym, refl, ap, ◌∙◌, arith, length-append, le-leb, leb-true}
use Rattle.std.proofs.lemmas.Bool.{false≢true, cond-true}
use Rattle.book.proofs.Overwrites.{drop-overwritten, length-overwritten, overwritten_twice}
use Rattle.book.proofs.Spelling.{reads_back}
use Rattle.book.specs.Commands.{Instruction, width, decoded}
use Rattle.book.specs.Writing.{spelled, eight_bytes, overwritten, room_for, Overwrote, Wrote, ReadsBack}
use Rattle.book.specs.declared.writing.Unwritten.{Unwritten}
use Rattle.book.specs.declared.writing.Unwritten.TheVariants.{NameLength, TooShort}

-- an answer that is no refusal has passed both tests
both_passed : (room spells : Bool) (end : ℕ) → is_ok {T = ℕ} {E = Unwritten} (cond room (cond spells (Ok end) (Err NameLength)) (Err TooShort)) ≡ true → (room ≡ true) × (spells ≡ true)
both_passed true true end ok = (refl, refl)
both_passed true false end ok = absurd (false≢true ok)
both_passed false true end ok = absurd (false≢true ok)
both_passed false false end ok = absurd (false≢true ok)

pub wrote_reads_back : {old new : List ℕ} {place : ℕ} {i : Instruction} {r : Result ℕ Unwritten} → Wrote old place i r new → ReadsBack place i r new
wrote_reads_back {old} {new} {place} {i} {r} wrote ok =
    let passed = both_passed (leb (place + width i) (length old)) (eight_bytes i) (place + width i) (ap is_ok (sym wrote.answer) ∙ ok) in
    let room = leb-true (place + width i) (length old) passed.0 in
    ap (λ bs. decoded (drop place bs)) (wrote.after ∙ cond-true (is_ok r) _ _ ok)
    ∙ ap decoded (drop-overwritten old (spelled i) place (omega arith))
    ∙ (reads_back i (drop (place + length (spelled i)) old) passed.1).1

room_is : (room place n : ℕ) → place + n ≤ room → room_for room place n ≡ Ok (place + n)
room_is room place n h = rw (le-leb (place + n) room h)

new_is : {old new bytes : List ℕ} {place : ℕ} {r : Result ℕ Unwritten} → Overwrote old place bytes r new → is_ok r ≡ true → new ≡ overwritten old place bytes
new_is {r} put ok = put.after ∙ cond-true (is_ok r) _ _ ok

-- two writes for which there is room, the second right behind the first, are one
pub put_twice : {old mid new xs ys : List ℕ} {place end : ℕ} {r s : Result ℕ Unwritten} → Overwrote old place xs r mid → r ≡ Ok end → Overwrote mid end ys s new → place + length xs + length ys ≤ length old → Overwrote old place (xs ++ ys) s new
put_twice {old} {mid} {new} {xs} {ys} {place} {end} {r} {s} first was second room =
    let is : ◌≡◌ {A = Result ℕ Unwritten} (Ok end) (Ok (place + length xs)) = sym was ∙ first.answer ∙ room_is (length old) place (length xs) (omega arith) in
    let here : end ≡ place + length xs = cc in
    let changed : mid ≡ overwritten old place xs = new_is first (ap is_ok was) in
    let same : length mid ≡ length old = ap length changed ∙ length-overwritten old xs place (omega arith) in
    let fits : s ≡ Ok (end + length ys) = second.answer ∙ room_is (length mid) end (length ys) (omega arith) in
    let both : end + length ys ≡ place + length (xs ++ ys) = omega (arith, length-append xs ys) in
    record {
      answer = fits ∙ ap Ok both ∙ sym (room_is (length old) place (length (xs ++ ys)) (omega (arith, length-append xs ys)));
      after =
          new_is second (ap is_ok fits)
          ∙ (λ i. overwritten (changed i) (here i) ys)
          ∙ overwritten_twice old xs ys place (omega arith)
          ∙ sym (cond-true (is_ok s) _ _ (ap is_ok fits));
    }

-- bytes that spell an instruction
pub put_wrote : {old new bytes : List ℕ} {place : ℕ} {i : Instruction} {r : Result ℕ Unwritten} → Overwrote old place bytes r new → eight_bytes i ≡ true → bytes ≡ spelled i → Wrote old place i r new
put_wrote {old} {place} {i} {r} put eight spells = record {
  answer = put.answer ∙ ap (room_for (length old) place) (ap length spells ∙ (reads_back i [] eight).0) ∙ rw eight;
  after = put.after ∙ ap (λ bs. cond (is_ok r) (overwritten old place bs) old) spells;
}
