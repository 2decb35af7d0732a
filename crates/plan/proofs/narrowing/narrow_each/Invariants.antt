use Rattle.std.proofs.Common.{◌≡◌, ℕ, ◌+◌, ◌<◌, ◌≤◌, length, get_or, None}
use Rattle.std.specs.Option.{option_map}
use Rattle.plan.specs.Told.{narrowed}
use Rattle.plan.proofs.narrowing.narrow_each.Given as goal

abbrev pub invariant-loop-i : goal.invariant-loop-i
invariant-loop-i l =
    ((k : ℕ) → k < l.i → get_or l.windows k None ≡ option_map (narrowed l.chart l.placed l.hour (k + 1)) (get_or l.initial.windows k None))
    × ((k : ℕ) → l.i ≤ k → get_or l.windows k None ≡ get_or l.initial.windows k None)
    × (length l.windows ≡ 31)
