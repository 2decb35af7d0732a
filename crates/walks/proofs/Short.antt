-- Different numbers below n number at most n, so loops are short. Assumes nothing.
use Rattle.std.proofs.Common.{◌≡◌, ℕ, zero, suc, ◌<◌, ◌≤◌, List, [], ◌∷◌, length, is_some, None, sym, ap, ◌∙◌, subst, ⊎_elim, arith}
use Rattle.std.specs.List.{AllByRecursion}
use Rattle.std.proofs.lemmas.List.{get_or_past, length-map}
use Rattle.std.proofs.lemmas.Bool.{cases_eq, cases_lt, false≢true}
use Rattle.sheet.specs.declared.forms.Link.{Link}
use Rattle.sheet.specs.Sheets.{RuleSheet, Present}
use Rattle.sheet.specs.Limits.{Sound}
use Rattle.sheet.specs.Links.{Run, Loop, Distinct, places}
use Rattle.walks.proofs.LinkLaws.{link_ends}

-- Different numbers at most n, without n where it is among them: at most one fewer, and below n.
record Fewer (n : ℕ) (xs : List ℕ) : Type 0 where
  left : List ℕ
  below : AllByRecursion (λ x. x < n) left
  once : Distinct left
  few : length xs ≤ suc (length left)
  -- what differs from each of the numbers differs from each that is left
  kept : (x : ℕ) → AllByRecursion (λ y. x ≡ y → ⊥) xs → AllByRecursion (λ y. x ≡ y → ⊥) left

-- numbers below n + 1 that are not n are below n
lower : (n : ℕ) (xs : List ℕ) → AllByRecursion (λ x. x < suc n) xs → AllByRecursion (λ y. n ≡ y → ⊥) xs → AllByRecursion (λ x. x < n) xs
lower n [] below other = tt
lower n (x ∷ xs) below other =
    let h = below.0 in
    let d = other.0 in
    let lt : x < n = ⊎_elim (λ e. absurd (d e)) (λ (ne : n ≡ x → ⊥). omega arith) (cases_eq n x) in
    (lt, lower n xs below.1 other.1)

without : (n : ℕ) (xs : List ℕ) → AllByRecursion (λ x. x < suc n) xs → Distinct xs → Fewer n xs
without n [] below once = record { left = []; below = tt; once = tt; few = omega arith; kept = λ x h. h }
without n (x ∷ xs) below once =
    ⊎_elim
    (λ (e : n ≡ x).
    record {
      left = xs;
      below = lower n xs below.1 (subst (λ (m : ℕ). AllByRecursion (λ y. m ≡ y → ⊥) xs) (sym e) once.0);
      once = once.1;
      few = omega arith;
      kept = λ z h. h.1;
    })
    (λ (other : n ≡ x → ⊥).
    let rest = without n xs below.1 once.1 in
    let here = below.0 in
    let few = rest.few in
    let lt : x < n = omega arith in
    record {
      left = x ∷ rest.left;
      below = (lt, rest.below);
      once = (rest.kept x once.0, rest.once);
      few = omega arith;
      kept = λ z h. (h.0, rest.kept z h.1);
    })
    (cases_eq n x)

pub few_below : (n : ℕ) (xs : List ℕ) → AllByRecursion (λ x. x < n) xs → Distinct xs → length xs ≤ n
few_below zero [] below once = omega arith
few_below zero (x ∷ xs) below once = let h = below.0 in absurd (omega arith)
few_below (suc n) xs below once =
    let fewer = without n xs below once in
    let few = fewer.few in
    let h = few_below n fewer.left fewer.below fewer.once in
    omega arith

-- the places of a sound sheet are below 32
pub present_below : (s : RuleSheet) → Sound s → (n : ℕ) → Present s n → n < 32
present_below s ok zero there = omega arith
present_below s ok (suc n) there =
    let count = ok.step_count in
    ⊎_elim (λ (h : n < 31). omega arith)
    (λ (h : 31 ≤ n). absurd (false≢true (sym (ap is_some (get_or_past s.steps n None (omega arith))) ∙ there)))
    (cases_lt n 31)

pub run_below : (s : RuleSheet) → Sound s → (i j : ℕ) (ls : List Link) → Run s i j ls → AllByRecursion (λ x. x < 32) (places ls)
run_below s ok i j [] run = tt
run_below s ok i j (l ∷ ls) run =
    (present_below s ok l.from (link_ends s ok l run.1).0, run_below s ok l.to j ls run.2)

pub loop_short : (s : RuleSheet) → Sound s → (ls : List Link) → Loop s ls → length ls ≤ 32
loop_short s ok ls loop =
    let h = few_below 32 (places ls) (run_below s ok loop.base loop.base ls loop.closed) loop.once in
    let e = length-map ls (λ (l : Link). l.from) in
    omega arith
