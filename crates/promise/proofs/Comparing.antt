-- Charts that are compared entry by entry. Assumes nothing.
use Rattle.std.proofs.Common.{◌≡◌, Bool, List, ℤ, Some, Ok, Result}
use Rattle.std.specs.Cmp.Lexicographic.{pointwise}
use Rattle.std.specs.Ordering.{int_eq}
use Rattle.std.proofs.lemmas.Bool.Decides.{Decides-int_eq}
use Rattle.std.proofs.lemmas.Slice.Eq.{slice_eq-Decides}
use Rattle.loops.specs.declared.refusals.LoopRefusal.{LoopRefusal}
use Rattle.promise.specs.Charts.{SameTold}

-- what a test of all entries says of two charts that were given
pub same_told : (first second : Result (List ℤ) LoopRefusal) (a b : List ℤ) (same : Bool) → first ≡ Ok a → second ≡ Ok b → same ≡ pointwise int_eq a b → SameTold first second (Some same)
same_told first second a b same one other tested =
    rw (one, other) (slice_eq-Decides Decides-int_eq a b same tested)
