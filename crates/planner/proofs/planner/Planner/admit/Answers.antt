use Rattle.std.proofs.Common.{rules}
use Rattle.book.specs.Commands.{said}
use Rattle.planner.proofs.Admitting.{admitted, refused}
use Rattle.planner.proofs.planner.Planner.admit.Goals as goal

pub returns : goal.returns
returns c =
    admitted c.args.self.now.checked.sheet (said c.args.command.now) c.in_ok-asked.asked c.in_ok-asked.ensures c.args.hours.now c.planner_plainly.new.hours c.if-hours-lt1024.false c.in_ok-self.field-0 c.in_ok-self.ensures

pub returns-in_err-self : goal.returns-in_err-self
returns-in_err-self c =
    let h = refused c.args.self.now.checked.sheet (said c.args.command.now) c.in_ok-asked.asked c.in_ok-asked.ensures c.args.hours.now c.planner_plainly.new.hours c.if-hours-lt1024.false c.in_err-self.field-0.0 c.in_err-self.ensures in
    search rules
