use Rattle.std.proofs.Common.{arith, rules, eq-eqb}
use Rattle.book.proofs.Writes.{put_twice, put_wrote}
use Rattle.book.proofs.writing.put_step.Goals as goal

pub returns : goal.returns
returns c = put_wrote (put_twice c.put.ensures c.in_ok-end.was c.put-2.ensures (omega arith)) (eq-eqb _ 8 c.if-name-ne8.false) (search rules)
