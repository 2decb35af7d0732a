use Rattle.std.proofs.Common.{◌≡◌, drop, subst, arith, length-set}
use Rattle.windows.specs.Crowds.{crowd}
use Rattle.plan.proofs.Crowding.{counted_more, counted_all, rest_more}
use Rattle.plan.proofs.crowd.count_crowd.Goals as goal

pub loop-class-preserved : goal.loop-class-preserved
loop-class-preserved c = (
  counted_more (crowd c.args.period c.args.kind c.args.placed.now) c.loop-class.counts c.loop-class.class c.count.result (omega (arith, c.loop-class.invariant.1)) c.loop-class.invariant.0 c.count.ensures,
  simp length-set c.loop-class.invariant.1,
  rest_more c.loop-class.counts c.args.counts.now c.loop-class.class c.count.result c.loop-class.invariant.2,
)

pub returns : goal.returns
returns c =
    let all : c.loop-class.class ≡ c.args.period = omega arith in
    record {
      front = counted_all c.args.period c.args.kind c.args.placed.now c.loop-class.counts (omega (arith, c.loop-class.invariant.1)) (λ k low. c.loop-class.invariant.0 k (omega arith));
      rest = subst (λ n. drop n c.loop-class.counts ≡ drop n c.args.counts.now) all c.loop-class.invariant.2;
    }
