use Rattle.std.proofs.Common.{Some, vec_items, sym, subst, arith}
use Rattle.book.specs.Commands.{said}
use Rattle.planner.specs.Entering.{sheet_of}
use Rattle.planner.specs.Rules.{Outcome}
use Rattle.runs.proofs.Outcomes.{accepted, refused}
use Rattle.runs.proofs.Taking.{nothing_noted, refusal_noted}
use Rattle.runs.proofs.running.take_command.Goals as goal

pub returns-in-Ok : goal.returns-in-Ok
returns-in-Ok c =
    nothing_noted (sheet_of c.args.planner.now) (sheet_of c.enter.new.self) c.args.call (vec_items c.args.notes.now) (said c.args.command.now)
    (accepted (sheet_of c.args.planner.now) (said c.args.command.now) _ _ (sheet_of c.enter.new.self) c.in-Ok.ensures)

pub returns-in-Err : goal.returns-in-Err
returns-in-Err c =
    let comes = refused (sheet_of c.args.planner.now) (said c.args.command.now) _ _ (sheet_of c.enter.new.self) _ (record { hours = omega arith; counted = omega arith; codes = omega arith }) c.in-Err.ensures in
    refusal_noted (sheet_of c.args.planner.now) (sheet_of c.enter.new.self) c.args.call (vec_items c.args.notes.now) (said c.args.command.now) _ _ _
    (subst (λ n. Outcome (sheet_of c.args.planner.now) (said c.args.command.now) (Some n) (sheet_of c.enter.new.self)) (sym c.number-number.ensures) comes) c.add_note.ensures
