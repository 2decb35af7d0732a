use Rattle.std.proofs.Common.{◌≡◌, ℕ, ◌+◌, ◌<◌, length, get_or, None}
use Rattle.plan.specs.Told.{Tells}
use Rattle.windows.specs.Windows.{nothing_placed}
use Rattle.plan.proofs.opening.open_windows.Given as goal

abbrev pub invariant-loop-i : goal.invariant-loop-i
invariant-loop-i g l =
    (length l.window-items ≡ 31)
    × ((k : ℕ) → k < l.i → Tells (g.S.Source.sheet l.source).told nothing_placed (k + 1) (get_or l.window-items k None))
