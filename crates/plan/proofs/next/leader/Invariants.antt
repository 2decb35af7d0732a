use Rattle.std.proofs.Common.{length}
use Rattle.plan.specs.Next.{slacks_left, Leader}
use Rattle.plan.proofs.next.leader.Given as goal

abbrev pub invariant-loop-place : goal.invariant-loop-place
invariant-loop-place l = Leader (slacks_left l.windows l.placed) (length l.yielded) l.held
