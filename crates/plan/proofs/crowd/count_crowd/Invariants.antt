use Rattle.std.proofs.Common.{◌≡◌, ℕ, ◌<◌, length, get_or, drop}
use Rattle.windows.specs.Crowds.{crowd}
use Rattle.plan.proofs.crowd.count_crowd.Given as goal

abbrev pub invariant-loop-class : goal.invariant-loop-class
invariant-loop-class l =
    ((k : ℕ) → k < l.class → get_or l.counts k 0 ≡ crowd l.period l.kind l.placed k)
    × (length l.counts ≡ 999)
    × (drop l.class l.counts ≡ drop l.class l.initial.counts)
