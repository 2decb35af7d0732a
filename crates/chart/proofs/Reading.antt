-- Reading and writing the cells of a chart. Assumes nothing.
use Rattle.std.proofs.Common.{◌≡◌, ℕ, ◌+◌, ◌*◌, ◌<◌, List, length, get_or, set, arith}
use Rattle.std.proofs.lemmas.List.{get_or_read, get_or-set_same, get_or-set_other}
use Rattle.chart.specs.Cells.{at}

module _ {E : Type 0} (neutral : E) where
  -- what code reads at an index
  pub read : (xs : List E) (a b : ℕ) (x : E) → 32 * a + b < length xs → x ≡ get_or xs (32 * a + b) x → x ≡ at neutral xs a b
  unfolding at
  read xs a b x h e = get_or_read xs (32 * a + b) x h e neutral

  pub written : (xs : List E) (a b : ℕ) (x : E) → 32 * a + b < length xs → at neutral (set xs (32 * a + b) x) a b ≡ x
  unfolding at
  written xs a b x h = get_or-set_same xs (32 * a + b) x neutral h

  pub unwritten : (xs : List E) (a b i j : ℕ) (x : E) → b < 32 → j < 32 → (i ≡ a → j ≡ b → ⊥)
      → at neutral (set xs (32 * a + b) x) i j ≡ at neutral xs i j
  unfolding at
  unwritten xs a b i j x h k ne =
      get_or-set_other xs (32 * a + b) (32 * i + j) x neutral (λ e. ne (omega arith) (omega arith))
