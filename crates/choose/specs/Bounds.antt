-- Where the calmest hour lies, which the rule that names it must show. Assumes nothing.
use Rattle.std.specs.Prelude.{ℕ, zero, suc, ◌+◌, ◌≤◌, nat_lt}
use Rattle.std.proofs.Common.{le_refl, arith}
use Rattle.std.proofs.lemmas.Bool.{cond_both}
use Rattle.choose.specs.Calmest.{calmest}

pub calmest_from : (peaks : ℕ → ℕ) (from n : ℕ) → from ≤ calmest peaks from n
unfolding calmest
calmest_from peaks from zero = le_refl from
calmest_from peaks from (suc n) =
    cond_both (nat_lt (peaks (from + suc n)) (peaks (calmest peaks from n))) (from + suc n) (calmest peaks from n) (λ h. from ≤ h)
    (λ _. omega arith) (λ _. calmest_from peaks from n)

pub calmest_to : (peaks : ℕ → ℕ) (from n : ℕ) → calmest peaks from n ≤ from + n
unfolding calmest
calmest_to peaks from zero = omega arith
calmest_to peaks from (suc n) =
    cond_both (nat_lt (peaks (from + suc n)) (peaks (calmest peaks from n))) (from + suc n) (calmest peaks from n) (λ h. h ≤ from + suc n)
    (λ _. omega arith) (λ _. omega (arith, calmest_to peaks from n))
