-- Vessel numbers that agree on lower-numbered steps. Assumes nothing.
use Rattle.std.proofs.Common.{◌≡◌, ℕ, zero, suc, ◌+◌, ◌<◌, List, length, get_or, set, Some, None, Option, ◌⊎◌, inl, inr, sym, refl, ◌∙◌, subst, ⊎_elim, arith, below_more}
use Rattle.std.proofs.lemmas.List.{get_or-set_same, get_or-set_other}
use Rattle.std.proofs.lemmas.Bool.{cases_lt, cases_order}
use Rattle.vessels.specs.Vessels.{at, Taken, Gets, Due, Numbered, stock_for}
use Rattle.vessels.specs.declared.placed.Placed.{Placed}

pub there_or_not : (o : Option Placed) → (o ≡ None) ⊎ ((step : Placed) × (o ≡ Some step))
there_or_not None = inl refl
there_or_not (Some step) = inr (step, refl)

-- Two lists of numbers agree on the steps before a place.
abbrev pub Agree : ℕ → List ℕ → List ℕ → Type 0
Agree place a b = (i : ℕ) → i < place → get_or a i 0 ≡ get_or b i 0

agree_turned : (place : ℕ) (a b : List ℕ) → Agree place a b → Agree place b a
agree_turned place a b same i below = sym (same i below)

-- a number written at a place leaves those of lower-numbered steps
written_below : (numbers : List ℕ) (place vessel : ℕ) → Agree place numbers (set numbers place vessel)
written_below numbers place vessel i below = sym (get_or-set_other numbers place i vessel 0 (λ same. omega arith))

module _ {period : ℕ} {placed : List (Option Placed)} where
  -- what is taken depends on the lower-numbered steps alone
  pub taken_by : (place : ℕ) (step : Placed) (vessel : ℕ) (a b : List ℕ) → Agree place a b → Taken period placed a place step vessel → Taken period placed b place step vessel
  taken_by place step vessel a b same t = record {
    by = t.by;
    lower = t.lower;
    holder = t.holder;
    present = t.present;
    keeps = record { has = sym (same t.by t.lower) ∙ t.keeps.has; same_kind = t.keeps.same_kind; shares = t.keeps.shares };
  }

  pub gets_by : (stock place : ℕ) (step : Placed) (vessel : ℕ) (a b : List ℕ) → Agree place a b → Gets period stock placed a place step vessel → Gets period stock placed b place step vessel
  gets_by stock place step vessel a b same g = record {
    from_one = g.from_one;
    in_stock = g.in_stock;
    free = λ t. g.free (taken_by place step vessel b a (agree_turned place a b same) t);
    smallest = λ v low less. taken_by place step v a b same (g.smallest v low less);
  }

  -- at most one number
  pub gets_only : (stock place : ℕ) (step : Placed) (v w : ℕ) (a : List ℕ) → Gets period stock placed a place step v → Gets period stock placed a place step w → v ≡ w
  gets_only stock place step v w a x y =
      ⊎_elim
      (λ same. same)
      (⊎_elim (λ less. absurd (x.free (y.smallest v x.from_one less))) (λ more. absurd (y.free (x.smallest w y.from_one more))))
      (cases_order v w)

  module _ {stock : List ℕ} where
    due_by : (place vessel : ℕ) (a b : List ℕ) → Agree place a b → Due period stock placed a place vessel → Due period stock placed b place vessel
    due_by place vessel a b same n = record {
      if_absent = n.if_absent;
      if_present = λ step some. gets_by (stock_for stock step) place step vessel a b same (n.if_present step some);
    }

    -- a number written at a place leaves lower-numbered steps what is due to them
    numbered_kept : (numbers : List ℕ) (place vessel i : ℕ) → i < place → Numbered period stock placed numbers i → Numbered period stock placed (set numbers place vessel) i
    numbered_kept numbers place vessel i below n =
        let P : ℕ → Type 0 = λ v. Due period stock placed (set numbers place vessel) i v in
        subst P (written_below numbers place vessel i below)
        (due_by i (get_or numbers i 0) numbers (set numbers place vessel) (λ j less. written_below numbers place vessel j (omega arith)) n)

    numbered_new : (numbers : List ℕ) (place vessel : ℕ) → place < length numbers → Due period stock placed numbers place vessel → Numbered period stock placed (set numbers place vessel) place
    numbered_new numbers place vessel inside n =
        let P : ℕ → Type 0 = λ v. Due period stock placed (set numbers place vessel) place v in
        subst P (sym (get_or-set_same numbers place vessel 0 inside)) (due_by place vessel numbers (set numbers place vessel) (written_below numbers place vessel) n)

    same_here : (place : ℕ) (a b : List ℕ) → Agree place a b → Numbered period stock placed a place → Numbered period stock placed b place → get_or a place 0 ≡ get_or b place 0
    same_here place a b same x y =
        ⊎_elim
        (λ none. x.if_absent none ∙ sym (y.if_absent none))
        (λ some.
        let step = some.0 in
        gets_only (stock_for stock step) place step (get_or a place 0) (get_or b place 0) b
        (gets_by (stock_for stock step) place step (get_or a place 0) a b same (x.if_present step some.1)) (y.if_present step some.1))
        (there_or_not (at placed place))

    -- numbers given out by the rule are the same
    pub agreed : (n : ℕ) (a b : List ℕ) → ((i : ℕ) → i < n → Numbered period stock placed a i) → ((i : ℕ) → i < n → Numbered period stock placed b i) → Agree n a b
    agreed zero a b x y i below = absurd (omega arith)
    agreed (suc n) a b x y i below =
        let sofar : Agree n a b = agreed n a b (λ j less. x j (omega arith)) (λ j less. y j (omega arith)) in
        ⊎_elim
        (λ less. sofar i less)
        (λ more.
        let last : n ≡ i = omega arith in
        let P : ℕ → Type 0 = λ j. get_or a j 0 ≡ get_or b j 0 in
        subst P last (same_here n a b sofar (x n (omega arith)) (y n (omega arith))))
        (cases_lt i n)

    -- one step more has its number
    pub numbered_more : (numbers : List ℕ) (place vessel : ℕ) → place < length numbers → ((i : ℕ) → i < place → Numbered period stock placed numbers i) → Due period stock placed numbers place vessel → (i : ℕ) → i < place + 1 → Numbered period stock placed (set numbers place vessel) i
    numbered_more numbers place vessel inside sofar n =
        below_more (λ i. Numbered period stock placed (set numbers place vessel) i) place
        (λ i below. numbered_kept numbers place vessel i below (sofar i below)) (numbered_new numbers place vessel inside n)
