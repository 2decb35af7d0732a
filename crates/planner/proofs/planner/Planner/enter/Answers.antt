use Rattle.std.proofs.Common.{rules}
use Rattle.book.specs.Commands.{said}
use Rattle.planner.proofs.Charting.{accepted, refused}
use Rattle.planner.proofs.planner.Planner.enter.Goals as goal

pub returns : goal.returns
returns c =
    accepted c.args.self.now.checked.sheet (said c.args.command.now) c.in_ok-asked.asked c.in_ok-asked.ensures _ _ (c.has_room.ensures.0 c.if-not-has_room.false) _ _ c.replace.ensures c.in_ok-planner_for.ensures

pub returns-in_err-planner_for : goal.returns-in_err-planner_for
returns-in_err-planner_for c =
    let h = refused c.args.self.now.checked.sheet (said c.args.command.now) c.in_ok-asked.asked c.in_ok-asked.ensures _ _ (c.has_room.ensures.0 c.if-not-has_room.false) _ c.in_err-planner_for.ensures in
    search rules
