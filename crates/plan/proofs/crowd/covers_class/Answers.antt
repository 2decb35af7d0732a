use Rattle.std.proofs.Common.{arith}
use Rattle.plan.proofs.Crowding.{covers_value, covers_when}
use Rattle.plan.proofs.crowd.covers_class.Goals as goal

pub returns : goal.returns
returns c =
    let until = c.hours_until.ensures in
    record {
      value = covers_value c.args.period c.args.step.start c.args.step.duration c.args.class c.hours_until.result c.requires (until.comes (omega arith)) until.fewest;
      covered = covers_when c.args.period c.args.step.start c.args.step.duration c.args.class c.hours_until.result c.requires (until.comes (omega arith)) until.fewest;
    }
