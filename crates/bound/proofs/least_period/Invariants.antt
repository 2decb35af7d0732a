use Rattle.std.proofs.Common.{◌≡◌, ◌-◌, ◌<◌, ◌≤◌, ◌⊎◌}
use Rattle.loops.specs.Loops.{RestKept}
use Rattle.bound.specs.Bounds.{Works, Blocked}
use Rattle.bound.proofs.least_period.Given as goal

abbrev pub invariant-loop-high : goal.invariant-loop-high
invariant-loop-high g l =
    (l.low < l.high) × (l.high ≤ 999) × Works (g.S.Source.sheet l.source).told l.high × ((l.low ≡ 0) ⊎ Blocked (g.S.Source.sheet l.source).told l.low)
    × RestKept l.initial.hours l.hours

abbrev pub decreases-loop-high : goal.decreases-loop-high
decreases-loop-high g l = l.high - l.low
