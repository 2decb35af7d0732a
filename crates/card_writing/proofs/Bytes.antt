-- Bytes put into a buffer, one run behind another. Assumes nothing.
use Rattle.std.proofs.Common.{◌≡◌, ℕ, zero, suc, ◌+◌, ◌*◌, ◌≤◌, List, [], ◌∷◌, ◌++◌, length, take, drop, sym, refl, ap, ◌∙◌, subst, append_assoc, mul-add, arith, length-append}
use Rattle.std.proofs.lemmas.List.{take-append-drop}
use Rattle.std.specs.List.{flat_map}
use Rattle.book.proofs.Overwrites.{length-overwritten, overwritten_twice}
use Rattle.book.specs.Commands.{Instruction, set_period, set_span}
use Rattle.book.specs.Writing.{spelled, overwritten}
use Rattle.sheet.specs.declared.forms.Sheet.{Sheet}
use Rattle.card_writing.specs.Contents.{up_to, steps_up_to, rules_up_to, spelled_all, card_of}
use Rattle.card_writing.specs.Outcomes.{Put}

-- a buffer keeps its length
pub put_length : {old new bytes : List ℕ} {place end : ℕ} → Put old place bytes end new → length new ≡ length old
put_length {old} {bytes} {place} put = ap length put.bytes_after ∙ length-overwritten old bytes place put.room

-- where there are no commands, nothing is put
pub put_nothing : (old : List ℕ) (place : ℕ) (is : List Instruction) → place ≤ length old → [] ≡ is → Put old place (spelled_all is) place old
put_nothing old place is inside none =
    subst (λ l. Put old place (spelled_all l) place old) none
    (record {
      room = omega arith;
      reached = omega arith;
      bytes_after = sym (take-append-drop place old) ∙ ap (λ n. take place old ++ drop n old) (omega arith);
    })

-- two runs, the second right behind the first, are one
pub put_both : {old mid new xs ys : List ℕ} {place between end : ℕ} → Put old place xs between mid → Put mid between ys end new → Put old place (xs ++ ys) end new
put_both {old} {mid} {new} {xs} {ys} {place} {between} {end} first second =
    let same = put_length first in
    let long = length-append xs ys in
    let before = first.room in
    let room = second.room in
    let here = first.reached in
    let there = second.reached in
    record {
      room = omega (arith, same, long, before, room, here);
      reached = omega (arith, long, here, there);
      bytes_after = second.bytes_after ∙ (λ i. overwritten (first.bytes_after i) (here i) ys) ∙ overwritten_twice old xs ys place (omega (arith, before));
    }

module _ {X Y : Type 0} (f : X → List Y) where
  pub joined_both : (xs ys : List X) → flat_map f (xs ++ ys) ≡ flat_map f xs ++ flat_map f ys
  joined_both [] ys = refl
  joined_both (x ∷ xs) ys = ap (λ l. f x ++ l) (joined_both xs ys) ∙ sym (append_assoc (f x) (flat_map f xs) (flat_map f ys))

module _ {X : Type 0} (what : ℕ → List X) where
  pub up_to_none : up_to what 0 ≡ []
  unfolding up_to
  up_to_none = refl

  pub up_to_suc : (n : ℕ) → up_to what (suc n) ≡ up_to what n ++ what (suc n)
  unfolding up_to
  up_to_suc n = refl

  pub up_to_more : (n : ℕ) → up_to what (n + 1) ≡ up_to what n ++ what (n + 1)
  up_to_more n = let e : n + 1 ≡ suc n = omega arith in ap (up_to what) e ∙ up_to_suc n ∙ ap (λ k. up_to what n ++ what k) (sym e)

-- what belongs to the numbers up to n was put, at most so many bytes for each
pub record PutTo (width : ℕ) (commands : ℕ → List Instruction) (old : List ℕ) (place n end : ℕ) (new : List ℕ) : Type 0 where
  pub put : Put old place (spelled_all (commands n)) end new
  pub most : end ≤ place + width * n
  pub len : length new ≡ length old

-- the same of the numbers below one
abbrev pub PutBelow : ℕ → (ℕ → List Instruction) → List ℕ → ℕ → ℕ → ℕ → List ℕ → Type 0
PutBelow width commands old place number end new = (n : ℕ) → number ≡ suc n → PutTo width commands old place n end new

module _ (what : ℕ → List Instruction) where
  put_to_none : (width : ℕ) (old : List ℕ) (place : ℕ) → place ≤ length old → PutTo width (up_to what) old place 0 place old
  put_to_none width old place inside = record {
    put = put_nothing old place (up_to what 0) inside (sym (up_to_none what));
    most = omega arith;
    len = refl;
  }

  put_to_more : {width : ℕ} {old mid new : List ℕ} {place n between end : ℕ} → PutTo width (up_to what) old place n between mid → Put mid between (spelled_all (what (n + 1))) end new → end ≤ between + width → PutTo width (up_to what) old place (n + 1) end new
  put_to_more {width} {old} {mid} {new} {place} {n} {between} {end} before more most = record {
    put = subst (λ bytes. Put old place bytes end new) (sym (joined_both spelled (up_to what n) (what (n + 1))) ∙ ap spelled_all (sym (up_to_more what n))) (put_both before.put more);
    most = omega (arith, before.most, most, mul-add width n 1);
    len = put_length more ∙ before.len;
  }

  pub put_below_one : (width : ℕ) (old : List ℕ) (place : ℕ) → place ≤ length old → PutBelow width (up_to what) old place 1 place old
  put_below_one width old place inside zero e = put_to_none width old place inside
  put_below_one width old place inside (suc n) e = absurd (omega arith)

  pub put_below_more : {width : ℕ} {old mid new : List ℕ} {place between end : ℕ} (number : ℕ) → 1 ≤ number → PutBelow width (up_to what) old place number between mid → Put mid between (spelled_all (what number)) end new → end ≤ between + width → PutBelow width (up_to what) old place (number + 1) end new
  put_below_more zero above before more most n e = absurd (omega arith)
  put_below_more {width} {old} {mid} {new} {place} {between} {end} (suc m) above before more most n e =
      let here : suc m ≡ m + 1 = omega arith in
      let more_here : Put mid between (spelled_all (what (m + 1))) end new = subst (λ k. Put mid between (spelled_all (what k)) end new) here more in
      let there : m + 1 ≡ n = omega arith in
      subst (λ k. PutTo width (up_to what) old place k end new) there (put_to_more (before m refl) more_here most)

-- a command that says the same is put as the same bytes
pub put_said : {old new : List ℕ} {place end : ℕ} {i j : Instruction} → i ≡ j → Put old place (spelled_all (i ∷ [])) end new → Put old place (spelled_all (j ∷ [])) end new
put_said {old} {new} {place} {end} same put = subst (λ k. Put old place (spelled_all (k ∷ [])) end new) same put

-- a card from its four groups
pub put_groups : (sheet : Sheet) {old first second third new : List ℕ} {place behind_period behind_span behind_steps end : ℕ} → Put old place (spelled_all (set_period sheet.period ∷ [])) behind_period first → Put first behind_period (spelled_all (set_span sheet.span ∷ [])) behind_span second → Put second behind_span (spelled_all (steps_up_to sheet.steps 31)) behind_steps third → Put third behind_steps (spelled_all (rules_up_to sheet.rules 96)) end new → Put old place (card_of sheet) end new
put_groups sheet {old} {new} {place} {end} period span steps rules =
    let all = put_both period (put_both span (put_both steps rules)) in
    subst (λ bytes. Put old place bytes end new)
    (ap (λ bytes. spelled_all (set_period sheet.period ∷ []) ++ (spelled_all (set_span sheet.span ∷ []) ++ bytes)) (sym (joined_both spelled (steps_up_to sheet.steps 31) (rules_up_to sheet.rules 96))))
    all
