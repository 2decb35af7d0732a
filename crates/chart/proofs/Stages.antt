-- One position more is processed. Assumes nothing.
use Rattle.std.proofs.Common.{◌≡◌, ℕ, ◌+◌, ◌^◌, ◌<◌, ◌≤◌, ◌⊎◌, List, sym, ap, ◌∙◌, subst, inl, inr, ⊎_elim, arith, pow_mono, pow-add}
use Rattle.std.proofs.lemmas.Bool.{cases_lt}
use Rattle.sheet.specs.declared.forms.Link.{Link}
use Rattle.chart.specs.Laws.{Laws, Raised, limit}
use Rattle.chart.specs.Cells.{at, Short, StageTo, ClosedTo, Made, first, over}
use Rattle.chart.proofs.Raising.{own_row, own_column}

module _ {E : Type 0} {neutral : E} {sum : E → E → E} {under : E → E → Type 0} {within : ℕ → E → Type 0}
    {value : ℕ → Link → E} (laws : Laws neutral sum under within value) where
  pub both : (x y v w : E) → under x y → under v w → under (sum x v) (sum y w)
  both x y v w p q = laws.transitive _ _ _ (laws.before x y v p) (laws.behind y v w q)

  pub made_more : (xs : List E) (k l a b : ℕ) (e : E) → k ≤ l → Made neutral sum under xs k a b e → Made neutral sum under xs l a b e
  made_more xs k l a b e h (first _ _ _) = first l a b
  made_more xs k l a b e h (over _ m _ _ x y lt p q) = over l m a b x y (omega arith) p q

  pub closed_none : (n : ℕ) (xs : List E) → Short neutral within n 2 xs → ((a : ℕ) → a < n → under neutral (at neutral xs a a))
      → ClosedTo neutral sum under within n 0 xs xs
  closed_none n xs short diagonal =
      record {
        rises = λ a b h l. laws.reflexive _;
        diagonal = diagonal;
        triangle = λ m a b h. absurd (omega arith);
        made = λ a b h l. first 0 a b;
        short = short;
      }

  pub short_limit : (n k : ℕ) (xs : List E) → k ≤ 32 → Short neutral within n (2 ^ (k + 1)) xs → Short neutral within n limit xs
  short_limit n k xs h short a b p q =
      laws.more (2 ^ (k + 1)) limit _ (pow_mono {i = k + 1} {j = 36} (omega arith)) (short a b p q)

  module _ (n k : ℕ) (xs ys zs : List E) (low : k < n) (own : at neutral ys k k ≡ neutral)
      (stage : StageTo neutral sum under k n n ys zs) (done : ClosedTo neutral sum under within n k xs ys) where
    raised : (a b : ℕ) → a < n → b < n → Raised under (at neutral ys a b) (sum (at neutral ys a k) (at neutral ys k b)) (at neutral zs a b)
    raised a b p q = stage.rows a b p q

    -- a way over a position processed before, by where its two parts come from
    earlier : (m a b : ℕ) → m < k → a < n → b < n
        → (at neutral zs a m ≡ at neutral ys a m) ⊎ (at neutral zs a m ≡ sum (at neutral ys a k) (at neutral ys k m))
        → (at neutral zs m b ≡ at neutral ys m b) ⊎ (at neutral zs m b ≡ sum (at neutral ys m k) (at neutral ys k b))
        → under (sum (at neutral zs a m) (at neutral zs m b)) (at neutral zs a b)
    earlier m a b h p q (inl e) (inl f) =
        subst (λ (v : E). under v (at neutral zs a b)) (sym (ap (sum (at neutral zs a m)) f ∙ ap (λ v. sum v (at neutral ys m b)) e))
        (laws.transitive _ _ _ (done.triangle m a b h p q) (raised a b p q).keeps)
    earlier m a b h p q (inl e) (inr f) =
        let way : sum (at neutral zs a m) (at neutral zs m b) ≡ sum (sum (at neutral ys a m) (at neutral ys m k)) (at neutral ys k b)
        = ap (sum (at neutral zs a m)) f ∙ ap (λ v. sum v (sum (at neutral ys m k) (at neutral ys k b))) e
        ∙ sym (laws.associative (at neutral ys a m) (at neutral ys m k) (at neutral ys k b)) in
        subst (λ (v : E). under v (at neutral zs a b)) (sym way)
        (laws.transitive _ _ _ (laws.before _ _ (at neutral ys k b) (done.triangle m a k h p low)) (raised a b p q).meets)
    earlier m a b h p q (inr e) (inl f) =
        let way : sum (at neutral zs a m) (at neutral zs m b) ≡ sum (at neutral ys a k) (sum (at neutral ys k m) (at neutral ys m b))
        = ap (sum (at neutral zs a m)) f ∙ ap (λ v. sum v (at neutral ys m b)) e
        ∙ laws.associative (at neutral ys a k) (at neutral ys k m) (at neutral ys m b) in
        subst (λ (v : E). under v (at neutral zs a b)) (sym way)
        (laws.transitive _ _ _ (laws.behind (at neutral ys a k) _ _ (done.triangle m k b h low q)) (raised a b p q).meets)
    earlier m a b h p q (inr e) (inr f) =
        let way : sum (at neutral zs a m) (at neutral zs m b)
        ≡ sum (at neutral ys a k) (sum (sum (at neutral ys k m) (at neutral ys m k)) (at neutral ys k b))
        = ap (sum (at neutral zs a m)) f ∙ ap (λ v. sum v (sum (at neutral ys m k) (at neutral ys k b))) e
        ∙ laws.associative (at neutral ys a k) (at neutral ys k m) (sum (at neutral ys m k) (at neutral ys k b))
        ∙ ap (sum (at neutral ys a k)) (sym (laws.associative (at neutral ys k m) (at neutral ys m k) (at neutral ys k b))) in
        let round : under (sum (at neutral ys k m) (at neutral ys m k)) neutral
        = subst (under (sum (at neutral ys k m) (at neutral ys m k))) own (done.triangle m k k h low low) in
        let rest : under (sum (sum (at neutral ys k m) (at neutral ys m k)) (at neutral ys k b)) (at neutral ys k b)
        = subst (under (sum (sum (at neutral ys k m) (at neutral ys m k)) (at neutral ys k b))) (laws.left_neutral (at neutral ys k b))
        (laws.before _ _ (at neutral ys k b) round) in
        subst (λ (v : E). under v (at neutral zs a b)) (sym way)
        (laws.transitive _ _ _ (laws.behind (at neutral ys a k) _ _ rest) (raised a b p q).meets)

    triangle : (m a b : ℕ) → m < k + 1 → a < n → b < n → under (sum (at neutral zs a m) (at neutral zs m b)) (at neutral zs a b)
    triangle m a b h p q =
        ⊎_elim
        (λ (lt : m < k). earlier m a b lt p q (raised a m p (omega arith)).one (raised m b (omega arith) q).one)
        (λ (ge : k ≤ m).
        let e : k ≡ m = omega arith in
        let column = own_column laws ys zs a k own (raised a k p low) in
        let row = own_row laws ys zs k b own (raised k b low q) in
        let here : under (sum (at neutral zs a k) (at neutral zs k b)) (at neutral zs a b)
        = subst (λ (v : E). under v (at neutral zs a b))
        (sym (ap (sum (at neutral zs a k)) row ∙ ap (λ v. sum v (at neutral ys k b)) column)) (raised a b p q).meets in
        subst (λ (v : ℕ). under (sum (at neutral zs a v) (at neutral zs v b)) (at neutral zs a b)) e here)
        (cases_lt m k)

    made : (a b : ℕ) → a < n → b < n → Made neutral sum under xs (k + 1) a b (at neutral zs a b)
    made a b p q =
        ⊎_elim
        (λ e.
        subst (Made neutral sum under xs (k + 1) a b) (sym e)
        (made_more xs k (k + 1) a b _ (omega arith) (done.made a b p q)))
        (λ e.
        subst (Made neutral sum under xs (k + 1) a b) (sym e)
        (over (k + 1) k a b _ _ (omega arith) (done.made a k p low) (done.made k b low q)))
        (raised a b p q).one

    short : Short neutral within n (2 ^ (k + 1 + 1)) zs
    short a b p q =
        let twice = pow-add 2 (k + 1) 1 in
        ⊎_elim
        (λ e. subst (within (2 ^ (k + 1 + 1))) (sym e) (laws.more _ _ _ (omega arith) (done.short a b p q)))
        (λ e.
        subst (within (2 ^ (k + 1 + 1))) (sym e)
        (laws.more _ _ _ (omega arith) (laws.joined _ _ _ _ (done.short a k p low) (done.short k b low q))))
        (raised a b p q).one

    pub closed_more : ClosedTo neutral sum under within n (k + 1) xs zs
    closed_more =
        record {
          rises = λ a b p q. laws.transitive _ _ _ (done.rises a b p q) (raised a b p q).keeps;
          diagonal = λ a p. laws.transitive _ _ _ (done.diagonal a p) (raised a a p p).keeps;
          triangle = triangle;
          made = made;
          short = short;
        }
