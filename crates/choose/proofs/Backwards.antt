-- The first hit from the end of a range. Assumes nothing.
use Rattle.std.proofs.Common.{◌≡◌, ℕ, ◌+◌, ◌-◌, ◌<◌, ◌≤◌, Bool, true, false, List, [], ◌∷◌, Some, None, Option, MatchOption, sym, ap, ◌∙◌, subst, ⊎_elim, Bor, arith}
use Rattle.std.specs.Fn.{CalledAt}
use Rattle.std.specs.Iterator.{Yields, YieldsThen}
use Rattle.std.specs.List.{FoldsTo}
use Rattle.std.specs.declared.iter.Rev.{Rev}
use Rattle.std.specs.declared.ops.Range.{Range}
use Rattle.std.proofs.lemmas.Bool.{cases_lt}
use denote.Param.Members.{Mut}

-- one call of a range that is read from its end
abbrev pub back_steps : Rev (Range ℕ) → Option ℕ → Rev (Range ℕ) → Type 0
back_steps s r t =
    (t.iter.start ≡ s.iter.start)
    × MatchOption r ((s.iter.end - s.iter.start ≡ 0) × (t.iter.end ≡ s.iter.end)) (λ x. (0 < s.iter.end - s.iter.start) × (x ≡ t.iter.end) × (s.iter.end ≡ t.iter.end + 1))

module _ {F : Type 0} {g : Mut F (Bor ℕ × Unit {0}) Bool} (f : F) (No : ℕ → Type 0) (no : (x : ℕ) (q : F) → CalledAt g f x false q → (q ≡ f) × No x) where
  record Passed (s t : Rev (Range ℕ)) (last : F) : Type 0 where
    same : last ≡ f
    start : t.iter.start ≡ s.iter.start
    end : t.iter.end ≤ s.iter.end
    none : (k : ℕ) → t.iter.end ≤ k → k < s.iter.end → No k

  passed : (xs : List ℕ) (s t : Rev (Range ℕ)) (last : F) → Yields back_steps s xs t → FoldsTo (λ p x q. CalledAt g p x false q) f xs last → Passed s t last
  passed [] s t last gave folds = record {
    same = sym folds;
    start = ap (λ (r : Rev (Range ℕ)). r.iter.start) (sym gave);
    end = omega (arith, ap (λ (r : Rev (Range ℕ)). r.iter.end) gave);
    none = λ k low high. absurd (omega (arith, ap (λ (r : Rev (Range ℕ)). r.iter.end) gave));
  }
  passed (x ∷ xs) s t last gave folds =
      let one = no x folds.0 folds.1 in
      let rest = passed xs gave.0 t last gave.2 (subst (λ p. FoldsTo (λ p x q. CalledAt g p x false q) p xs last) one.0 folds.2) in
      let step = gave.1 in
      record {
        same = rest.same;
        start = rest.start ∙ step.0;
        end = omega (arith, rest.end, step.1.2);
        none = λ k low high.
            ⊎_elim
            (λ less. rest.none k low less)
            (λ more. subst No (let e : x ≡ k = omega (arith, step.1.1, step.1.2) in e) one.1)
            (cases_lt k gave.0.iter.end);
      }

-- `find` from the end of the numbers below one, said of those numbers
pub last_below : {F : Type 0} {g : Mut F (Bor ℕ × Unit {0}) Bool} {f : F} (s u : Rev (Range ℕ)) (n : ℕ) (r : Option ℕ) (Yes No : ℕ → Type 0)
    → s.iter ≡ record { start = 0; end = n }
    → (xs : List ℕ) × (last : F) × YieldsThen back_steps s xs r u × FoldsTo (λ p x q. CalledAt g p x false q) f xs last × MatchOption r (Unit {0}) (λ x. (h : F) × CalledAt g last x true h)
    → ((x : ℕ) (q : F) → CalledAt g f x true q → Yes x)
    → ((x : ℕ) (q : F) → CalledAt g f x false q → (q ≡ f) × No x)
    → MatchOption r ((k : ℕ) → k < n → No k) (λ k. (k < n) × Yes k)
last_below {F} {g} {f} s u n None Yes No is found hit miss =
    let before = passed f No miss found.0 s found.2.0 found.1 found.2.1 found.3 in
    let step = found.2.2 in
    let start = ap (λ (range : Range ℕ). range.start) is in
    let end = ap (λ (range : Range ℕ). range.end) is in
    λ k high. before.none k (omega (arith, before.start)) (omega arith)
last_below {F} {g} {f} s u n (Some x) Yes No is found hit miss =
    let before = passed f No miss found.0 s found.2.0 found.1 found.2.1 found.3 in
    let step = found.2.2 in
    let end = ap (λ (range : Range ℕ). range.end) is in
    (omega (arith, before.end), hit x found.4.0 (subst (λ p. CalledAt g p x true found.4.0) before.same found.4.1))
