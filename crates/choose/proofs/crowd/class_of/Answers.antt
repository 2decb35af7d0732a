use Rattle.std.proofs.Common.{arith}
use Rattle.choose.proofs.Rounds.{class_within, class_round}
use Rattle.choose.proofs.crowd.class_of.Goals as goal

pub returns-then-hour-period : goal.returns-then-hour-period
returns-then-hour-period c = record { value = class_within c.args.period c.args.hour c.if-hour-period.true; below = c.if-hour-period.true }

pub returns-else-hour-period : goal.returns-else-hour-period
returns-else-hour-period c = record { value = class_round c.args.period c.args.hour c.if-hour-period.false c.requires; below = omega arith }
