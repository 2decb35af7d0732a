use Rattle.std.proofs.Common.{arith}
use Rattle.vessels.proofs.Meeting.{between_classes, comes_up, fewest}
use Rattle.vessels.proofs.sharing.hours_until.Goals as goal

pub returns : goal.returns
returns c =
    let between = c.hours_between.ensures in
    let classes = between_classes c.args.period c.args.from c.args.to _ _ c.hours_between.result c.class_of.ensures.value c.class_of-2.ensures.value between.comes in
    let comes = comes_up c.args.period c.args.from c.args.to c.hours_between.result (omega arith) classes in
    record {
      comes = λ _. comes;
      fewest = fewest c.args.period c.args.from c.args.to c.hours_between.result between.below comes;
      below = λ _. between.below;
      none = λ none. absurd (c.if-period-eq0.false none);
    }
