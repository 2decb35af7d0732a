-- The order of whole numbers is a proposition. Assumes nothing.
use lib.Dec.{T_prop}
use Rattle.std.proofs.Common.{ℤ, ◌≤ℤ◌}
use lib.Signed.{le_z}

pub le_prop : (a b : ℤ) → IsProp (a ≤ℤ b)
le_prop a b x y = λ i. record { le = T_prop (le_z a b) x.le y.le i }
