use Rattle.std.proofs.Common.{subst}
use Rattle.planner.specs.Entering.{sheet_of}
use Rattle.merge.proofs.Both.{both, part_is, end_is}
use Rattle.merge.specs.Turns.{BookTaken}
use Rattle.merge.specs.declared.reports.Book.TheVariants.{Tablet}
use Rattle.merge.proofs.merging.take_both.Goals as goal

pub returns : goal.returns
returns c =
    let n = c.take_either-first.result in
    let between = c.take_either-first.new.reports in
    let rest = c.take_either-second.new.reports in
    both (sheet_of c.args.planner.now) (sheet_of c.take_either-first.new.planner) (sheet_of c.take_either-second.new.planner) c.args.office.now c.args.tablet.now
    c.args.hours.now c.take_either-first.new.hours c.take_either-second.new.hours c.args.reports.now between _ rest n c.take_either-second.result
    c.requires.readable c.requires.room c.take_either-first.ensures.taken
    (subst (λ xs. BookTaken Tablet c.args.tablet.now (sheet_of c.take_either-first.new.planner) c.take_either-first.new.hours c.take_either-second.new.hours xs rest (sheet_of c.take_either-second.new.planner) c.take_either-second.result) (part_is n between) c.take_either-second.ensures.taken)
    (end_is n between rest)
