use Rattle.book.specs.Commands.{said}
use Rattle.planner.proofs.Charting.{asked_kept}
use Rattle.planner.proofs.planner.entering.asked_for.Goals as goal

pub invariant_of-result : goal.invariant_of-result
invariant_of-result c = record { sound = asked_kept c.args.checked.now.sheet _ (said c.args.command.now) c.args.checked.now.sound c.in_ok-change.ensures }
