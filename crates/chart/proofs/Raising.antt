-- Raising one cell, and the cells of a row. Assumes nothing.
use Rattle.std.proofs.Common.{◌≡◌, ℕ, ◌+◌, ◌*◌, ◌<◌, ◌≤◌, List, length, get_or, set, sym, refl, ap, ◌∙◌, subst, inl, inr, ⊎_elim, arith}
use Rattle.std.proofs.lemmas.Bool.{cases_lt}
use Rattle.sheet.specs.declared.forms.Link.{Link}
use Rattle.chart.specs.Laws.{Laws, Raised}
use Rattle.chart.specs.Cells.{at, RaisedAt, RowTo, StageTo}
use Rattle.chart.proofs.Reading.{read, written, unwritten}

module _ {E : Type 0} {neutral : E} {sum : E → E → E} {under : E → E → Type 0} {within : ℕ → E → Type 0}
    {value : ℕ → Link → E} (laws : Laws neutral sum under within value) where
  -- what is not under is above
  pub above : (x y : E) → (under x y → ⊥) → under y x
  above x y not = ⊎_elim (λ h. absurd (not h)) (λ h. h) (laws.total x y)

  -- the cell at which code read x, written or left
  pub cell_raised : (xs : List E) (a b : ℕ) (by x : E) → 32 * a + b < length xs → b < 32 → x ≡ get_or xs (32 * a + b) x
      → (under by x → ⊥) → RaisedAt neutral under a b by xs (set xs (32 * a + b) by)
  cell_raised xs a b by x inside low was beats =
      let now : at neutral (set xs (32 * a + b) by) a b ≡ by = written neutral xs a b by inside in
      let old : x ≡ at neutral xs a b = read neutral xs a b x inside was in
      record {
        here =
            subst (Raised under (at neutral xs a b) by) (sym now)
            (record {
              keeps = subst (λ (y : E). under y by) old (above by x beats);
              meets = laws.reflexive by;
              one = inr refl;
            });
        rest = λ i j k ne. unwritten neutral xs a b i j by low k ne;
      }

  pub cell_stays : (xs : List E) (a b : ℕ) (by x : E) → 32 * a + b < length xs → x ≡ get_or xs (32 * a + b) x
      → under by x → RaisedAt neutral under a b by xs xs
  cell_stays xs a b by x inside was low =
      record {
        here =
            record {
              keeps = laws.reflexive _;
              meets = subst (under by) (read neutral xs a b x inside was) low;
              one = inl refl;
            };
        rest = λ i j k ne. refl;
      }

  pub row_none : (row k : ℕ) (xs : List E) → RowTo neutral sum under row k 0 xs xs
  row_none row k xs = record { cells = λ b h. absurd (omega arith); rest = λ a b h ne. refl }

  -- one cell more: to is what the code read at (row, k)
  pub row_more : (row k n : ℕ) (xs ys zs : List E) (to : E) → n < 32 → RowTo neutral sum under row k n xs ys
      → to ≡ at neutral xs row k → RaisedAt neutral under row n (sum to (at neutral ys k n)) ys zs
      → RowTo neutral sum under row k (n + 1) xs zs
  row_more row k n xs ys zs to low done to_is raised =
      let still : at neutral ys row n ≡ at neutral xs row n = done.rest row n low (λ e h. omega arith) in
      let other : at neutral ys k n ≡ at neutral xs k n = done.rest k n low (λ e h. omega arith) in
      let by : sum to (at neutral ys k n) ≡ sum (at neutral xs row k) (at neutral xs k n) = cc in
      let here : Raised under (at neutral xs row n) (sum (at neutral xs row k) (at neutral xs k n)) (at neutral zs row n)
      = subst (λ (v : E). Raised under v (sum (at neutral xs row k) (at neutral xs k n)) (at neutral zs row n)) still
      (subst (λ (v : E). Raised under (at neutral ys row n) v (at neutral zs row n)) by raised.here) in
      record {
        cells =
            λ b h. ⊎_elim
            (λ (lt : b < n).
            let same : at neutral zs row b ≡ at neutral ys row b
            = raised.rest row b (omega arith) (λ p q. omega arith) in
            subst (Raised under (at neutral xs row b) (sum (at neutral xs row k) (at neutral xs k b))) (sym same)
            (done.cells b lt))
            (λ (ge : n ≤ b).
            let e : n ≡ b = omega arith in
            subst
            (λ (v : ℕ). Raised under (at neutral xs row v) (sum (at neutral xs row k) (at neutral xs k v)) (at neutral zs row v))
            e here)
            (cases_lt b n);
        rest =
            λ a b h ne.
            raised.rest a b h (λ p q. ne p (omega arith))
            ∙ done.rest a b h (λ p q. ne p (omega arith));
      }

  -- the row of a position whose own entry is neutral stays, and so does its column
  pub own_row : (xs ys : List E) (k b : ℕ) → at neutral xs k k ≡ neutral
      → Raised under (at neutral xs k b) (sum (at neutral xs k k) (at neutral xs k b)) (at neutral ys k b)
      → at neutral ys k b ≡ at neutral xs k b
  own_row xs ys k b own raised =
      ⊎_elim (λ e. e)
      (λ e. e ∙ ap (λ x. sum x (at neutral xs k b)) own ∙ laws.left_neutral (at neutral xs k b))
      raised.one

  pub own_column : (xs ys : List E) (a k : ℕ) → at neutral xs k k ≡ neutral
      → Raised under (at neutral xs a k) (sum (at neutral xs a k) (at neutral xs k k)) (at neutral ys a k)
      → at neutral ys a k ≡ at neutral xs a k
  own_column xs ys a k own raised =
      ⊎_elim (λ e. e) (λ e. e ∙ ap (sum (at neutral xs a k)) own ∙ laws.right_neutral (at neutral xs a k)) raised.one

  pub stage_none : (k n : ℕ) (xs : List E) → StageTo neutral sum under k n 0 xs xs
  stage_none k n xs = record { rows = λ a b h. absurd (omega arith); rest = λ a b h l. refl }

  -- in the midst of a stage the row of its position is as it was
  pub mid_row : (k n r b : ℕ) (xs ys : List E) → b < n → at neutral xs k k ≡ neutral → StageTo neutral sum under k n r xs ys
      → at neutral ys k b ≡ at neutral xs k b
  mid_row k n r b xs ys low own done =
      ⊎_elim (λ (h : k < r). own_row xs ys k b own (done.rows k b h low)) (λ (h : r ≤ k). done.rest k b h low) (cases_lt k r)

  pub stage_more : (k n r : ℕ) (xs ys zs : List E) → k < n → n ≤ 32 → at neutral xs k k ≡ neutral
      → StageTo neutral sum under k n r xs ys → RowTo neutral sum under r k n ys zs → StageTo neutral sum under k n (r + 1) xs zs
  stage_more k n r xs ys zs inside low own done row =
      record {
        rows =
            λ a b h l. ⊎_elim
            (λ (lt : a < r).
            let same : at neutral zs a b ≡ at neutral ys a b = row.rest a b (omega arith) (λ e m. omega arith) in
            subst (Raised under (at neutral xs a b) (sum (at neutral xs a k) (at neutral xs k b))) (sym same)
            (done.rows a b lt l))
            (λ (ge : r ≤ a).
            let e : r ≡ a = omega arith in
            subst
            (λ (v : ℕ). Raised under (at neutral xs v b) (sum (at neutral xs v k) (at neutral xs k b)) (at neutral zs v b))
            e (here b l))
            (cases_lt a r);
        rest = λ a b h l. row.rest a b (omega arith) (λ e m. omega arith) ∙ done.rest a b (omega arith) l;
      }
    where
      here : (b : ℕ) → b < n → Raised under (at neutral xs r b) (sum (at neutral xs r k) (at neutral xs k b)) (at neutral zs r b)
      here b l =
          let one : at neutral ys r b ≡ at neutral xs r b = done.rest r b (omega arith) l in
          let to : at neutral ys r k ≡ at neutral xs r k = done.rest r k (omega arith) inside in
          let on : at neutral ys k b ≡ at neutral xs k b = mid_row k n r b xs ys l own done in
          let by : sum (at neutral ys r k) (at neutral ys k b) ≡ sum (at neutral xs r k) (at neutral xs k b) = cc in
          subst (λ (v : E). Raised under v (sum (at neutral xs r k) (at neutral xs k b)) (at neutral zs r b)) one
          (subst (λ (v : E). Raised under (at neutral ys r b) v (at neutral zs r b)) by (row.cells b l))
