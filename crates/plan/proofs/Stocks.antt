-- A test of all counts of a stock. Assumes nothing.
use Rattle.std.proofs.Common.{ℕ, suc, ◌≤◌, ◌⊎◌, List, [], ◌∷◌, inl, inr, ⊎_elim, arith}
use Rattle.std.specs.List.{All}
use Rattle.std.proofs.lemmas.List.Elements.{All-nil, All-cons}
use Rattle.std.proofs.lemmas.Bool.{cases_lt}
use Rattle.plan.specs.Plans.{CountOver}

-- all counts are within the limit, or one is above it
all_or_over : (stock : List ℕ) → All (λ count. count ≤ 16) stock ⊎ CountOver stock
all_or_over [] = inl (All-nil (λ count. count ≤ 16))
all_or_over (count ∷ stock) =
    ⊎_elim
    (λ low.
    ⊎_elim
    (λ rest. inl (All-cons (λ count. count ≤ 16) count stock (omega arith) rest))
    (λ more. inr (record { kind = suc more.kind; over = more.over }))
    (all_or_over stock))
    (λ above. inr (record { kind = 0; over = omega arith }))
    (cases_lt count 17)

-- one is above it where not all are within
pub some_over : (stock : List ℕ) → ¬ All (λ count. count ≤ 16) stock → CountOver stock
some_over stock not_all = ⊎_elim (λ all. absurd (not_all all)) (λ over. over) (all_or_over stock)
