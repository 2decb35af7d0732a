use Rattle.std.proofs.Common.{arith}
use Rattle.checked.specs.Props.{told_by}
use Rattle.planner.specs.Entering.{sheet_of}
use Rattle.page.proofs.Bounding.{bound_given}
use Rattle.page.proofs.printing.bound_of.Goals as goal

pub unreachable-requires : goal.unreachable-requires
unreachable-requires c =
    let p = c.args.planner.now in
    bound_given (sheet_of p) (told_by p.checked.sheet p.checked.sound).sound c.requires _ _ _ c.in-Err.ensures (record { hours = omega arith; counted = omega arith; codes = omega arith })
