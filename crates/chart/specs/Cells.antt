-- The cells of a working chart and how its closing changes them. Assumes nothing.
use Rattle.std.specs.Prelude.{◌≡◌, ℕ, ◌+◌, ◌*◌, ◌^◌, ◌<◌, ◌≤◌, List, Some, None, Option, ◌≢◌, slice_index_or}
use Rattle.chart.specs.Laws.{Raised}

-- The entry from position a to position b. A chart has room for 32 positions.
unfoldable pub at : {E : Type 0} → E → List E → ℕ → ℕ → E
at neutral xs a b = slice_index_or xs (32 * a + b) neutral

module _ {E : Type 0} (neutral : E) where
  -- Every entry among the first n positions is within a sum of so many links.
  abbrev pub Short : (within : ℕ → E → Type 0) → ℕ → ℕ → List E → Type 0
  Short within n links xs = (a b : ℕ) → a < n → b < n → within links (at neutral xs a b)

  -- One cell is raised by an entry; the others stay.
  pub record RaisedAt (under : E → E → Type 0) (row column : ℕ) (by : E) (xs ys : List E) : Type 0 where
    pub here : Raised under (at neutral xs row column) by (at neutral ys row column)
    pub rest : (a b : ℕ) → b < 32 → (a ≡ row → b ≢ column) → at neutral ys a b ≡ at neutral xs a b

  module _ (sum : E → E → E) (under : E → E → Type 0) where
    -- The first n cells of a row are raised by the way over position k; the other cells stay.
    pub record RowTo (row k n : ℕ) (xs ys : List E) : Type 0 where
      pub cells : (b : ℕ) → b < n
          → Raised under (at neutral xs row b) (sum (at neutral xs row k) (at neutral xs k b)) (at neutral ys row b)
      pub rest : (a b : ℕ) → b < 32 → (a ≡ row → b < n → ⊥) → at neutral ys a b ≡ at neutral xs a b

    -- Of the first n positions, the rows below r are raised by the way over position k; the others stay.
    pub record StageTo (k n r : ℕ) (xs ys : List E) : Type 0 where
      pub rows : (a b : ℕ) → a < r → b < n
          → Raised under (at neutral xs a b) (sum (at neutral xs a k) (at neutral xs k b)) (at neutral ys a b)
      pub rest : (a b : ℕ) → r ≤ a → b < n → at neutral ys a b ≡ at neutral xs a b

    -- An entry made of the entries of a chart by ways over positions below k.
    pub data Made (xs : List E) : ℕ → ℕ → ℕ → E → Type 0 where
      first : (k a b : ℕ) → Made xs k a b (at neutral xs a b)
      over : (k m a b : ℕ) (e f : E) → m < k → Made xs m a m e → Made xs m m b f → Made xs k a b (sum e f)

    -- The chart of n positions is closed for the positions below k. They are called processed.
    pub record ClosedTo (within : ℕ → E → Type 0) (n k : ℕ) (xs ys : List E) : Type 0 where
      -- entries only rise
      pub rises : (a b : ℕ) → a < n → b < n → under (at neutral xs a b) (at neutral ys a b)
      pub diagonal : (a : ℕ) → a < n → under neutral (at neutral ys a a)
      -- no way over a processed position comes to more
      pub triangle : (m a b : ℕ) → m < k → a < n → b < n
          → under (sum (at neutral ys a m) (at neutral ys m b)) (at neutral ys a b)
      pub made : (a b : ℕ) → a < n → b < n → Made xs k a b (at neutral ys a b)
      -- each position at most doubles the number of links
      pub short : Short within n (2 ^ (k + 1)) ys

    -- All n positions are processed, or those below one whose entry to itself beats the neutral one.
    abbrev pub Closing : (within : ℕ → E → Type 0) → ℕ → List E → List E → Option ℕ → Type 0
    Closing within n xs ys None = ClosedTo within n n xs ys
    Closing within n xs ys (Some k) =
        (k < n) × ClosedTo within n k xs ys × (under (at neutral ys k k) neutral → ⊥)
