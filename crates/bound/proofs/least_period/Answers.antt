use Rattle.std.proofs.Common.{◌-◌, ◌<◌, ◌≤◌, arith}
use Rattle.bound.proofs.Bisecting.{below_bound, is_bound, is_least}
use Rattle.bound.proofs.least_period.Goals as goal

pub returns : goal.returns
returns g c =
    let s = (g.S.Source.sheet c.args.source.now).told in
    let inv = c.loop-high.invariant in
    let low : c.loop-high.low < c.loop-high.high = inv.0 in
    let next : c.loop-high.high - c.loop-high.low ≤ 1 = c.loop-high-test.false in
    let below = below_bound s c.loop-high.low c.loop-high.high (omega arith) inv.3 in
    record { kept = inv.4; bound = is_bound s c.loop-high.high (omega arith) inv.2 below; least = is_least s c.loop-high.high inv.2 below }
