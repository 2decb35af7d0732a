-- The first hit among the numbers from one to another. Assumes nothing.
use Rattle.std.proofs.Common.{◌≡◌, ℕ, ◌+◌, ◌-◌, ◌<◌, ◌≤◌, Bool, true, false, List, [], ◌∷◌, Some, None, Option, MatchOption, ◌⊎◌, inl, inr, Bor, sym, ap, ◌∙◌, subst, ⊎_elim, arith}
use Rattle.std.specs.Fn.{CalledAt}
use Rattle.std.specs.Iterator.{Yields, YieldsThen}
use Rattle.std.specs.List.{FoldsTo}
use Rattle.std.specs.Range.{range_inclusive_len}
use Rattle.std.specs.declared.ops.RangeInclusive.{RangeInclusive}
use Rattle.std.proofs.lemmas.Bool.{cases_Bool, cases_order}
use denote.Param.Members.{Mut}

-- how many numbers are left
abbrev left : RangeInclusive ℕ → ℕ
left s = range_inclusive_len (λ x y. y - x) s.start s.end s.exhausted

-- one call of a range of numbers, its end included
abbrev pub range_steps : RangeInclusive ℕ → Option ℕ → RangeInclusive ℕ → Type 0
range_steps s r t =
    (t.end ≡ s.end)
    × MatchOption r ((left s ≡ 0) × (t ≡ s)) (λ x. (x ≡ s.start) × (left t + 1 ≡ left s) × (t.exhausted ≡ false → t.start ≡ s.start + 1))

left_fresh : (s : RangeInclusive ℕ) → s.exhausted ≡ false → left s ≡ s.end + 1 - s.start
left_fresh s fresh = omega (arith, ap (range_inclusive_len (λ x y. y - x) s.start s.end) fresh)

left_spent : (s : RangeInclusive ℕ) → s.exhausted ≡ true → left s ≡ 0
left_spent s spent = ap (range_inclusive_len (λ x y. y - x) s.start s.end) spent

not_spent : (s : RangeInclusive ℕ) → 0 < left s → s.exhausted ≡ false
not_spent s some = ⊎_elim (λ spent. absurd (omega (arith, left_spent s spent))) (λ fresh. fresh) (cases_Bool s.exhausted)

module _ {F : Type 0} {g : Mut F (Bor ℕ × Unit {0}) Bool} (f : F) (No : ℕ → Type 0) (miss : (x : ℕ) (q : F) → CalledAt g f x false q → (q ≡ f) × No x) where
  -- the numbers that were passed over, once calls have led from one state of the range to another
  record Passed (s t : RangeInclusive ℕ) (last : F) : Type 0 where
    same : last ≡ f
    end : t.end ≡ s.end
    onward : t.exhausted ≡ false → (s.exhausted ≡ false) × (s.start ≤ t.start)
    none : s.exhausted ≡ false → (k : ℕ) → s.start ≤ k → k ≤ s.end → No k ⊎ ((t.exhausted ≡ false) × (t.start ≤ k))

  passed : (xs : List ℕ) (s t : RangeInclusive ℕ) (last : F) → Yields range_steps s xs t → FoldsTo (λ p x q. CalledAt g p x false q) f xs last → Passed s t last
  passed [] s t last gave folds = record {
    same = sym folds;
    end = ap (λ (r : RangeInclusive ℕ). r.end) (sym gave);
    onward = λ fresh. (ap (λ (r : RangeInclusive ℕ). r.exhausted) gave ∙ fresh, omega (arith, ap (λ (r : RangeInclusive ℕ). r.start) gave));
    none = λ fresh k low high. inr (sym (ap (λ (r : RangeInclusive ℕ). r.exhausted) gave) ∙ fresh, omega (arith, ap (λ (r : RangeInclusive ℕ). r.start) gave));
  }
  passed (x ∷ xs) s t last gave folds =
      let middle = gave.0 in
      let step = gave.1 in
      let one = miss x folds.0 folds.1 in
      let rest = passed xs middle t last gave.2 (subst (λ p. FoldsTo (λ p x q. CalledAt g p x false q) p xs last) one.0 folds.2) in
      record {
        same = rest.same;
        end = rest.end ∙ step.0;
        onward = λ fresh. (
          not_spent s (omega (arith, step.1.1)),
          omega (arith, (rest.onward fresh).1, step.1.2 (rest.onward fresh).0),
        );
        none = λ fresh k low high.
            ⊎_elim
            (λ here. inl (subst No (let e : x ≡ k = omega (arith, step.1.0) in e) one.1))
            (λ other.
            let more : s.start < k = ⊎_elim (λ less. absurd (omega arith)) (λ more. more) other in
            let going = not_spent middle (omega (arith, step.1.1, left_fresh s fresh)) in
            rest.none going k (omega (arith, step.1.2 going)) (omega (arith, step.0)))
            (cases_order k s.start);
      }

-- `find` among the numbers from one to another, said of those numbers
pub first_hit : {F : Type 0} {g : Mut F (Bor ℕ × Unit {0}) Bool} {f : F} (s u : RangeInclusive ℕ) (from to : ℕ) (r : Option ℕ) (Yes No : ℕ → Type 0)
    → s.start ≡ from → s.end ≡ to → s.exhausted ≡ false
    → (xs : List ℕ) × (last : F) × YieldsThen range_steps s xs r u × FoldsTo (λ p x q. CalledAt g p x false q) f xs last × MatchOption r (Unit {0}) (λ x. (h : F) × CalledAt g last x true h)
    → ((x : ℕ) (q : F) → CalledAt g f x true q → Yes x)
    → ((x : ℕ) (q : F) → CalledAt g f x false q → (q ≡ f) × No x)
    → MatchOption r ((k : ℕ) → from ≤ k → k ≤ to → No k) (λ hit. (from ≤ hit) × (hit ≤ to) × Yes hit × ((k : ℕ) → from ≤ k → k < hit → No k))
first_hit {F} {g} {f} s u from to None Yes No start end fresh found hit miss =
    let before = passed f No miss found.0 s found.2.0 found.1 found.2.1 found.3 in
    let step = found.2.2 in
    λ k low high.
    ⊎_elim
    (λ no. no)
    (λ left_over. absurd (omega (arith, before.end, step.1.0, left_fresh found.2.0 left_over.0, left_over.1)))
    (before.none fresh k (omega arith) (omega arith))
first_hit {F} {g} {f} s u from to (Some x) Yes No start end fresh found hit miss =
    let before = passed f No miss found.0 s found.2.0 found.1 found.2.1 found.3 in
    let step = found.2.2 in
    let going = not_spent found.2.0 (omega (arith, step.1.1)) in
    let within : x ≤ to = omega (arith, before.end, step.1.0, step.1.1, left_fresh found.2.0 going) in (
      omega (arith, (before.onward going).1, step.1.0),
      within,
      hit x found.4.0 (subst (λ p. CalledAt g p x true found.4.0) before.same found.4.1),
      λ k low high.
          ⊎_elim (λ no. no) (λ left_over. absurd (omega (arith, step.1.0, left_over.1))) (before.none fresh k (omega arith) (omega arith)),
    )
