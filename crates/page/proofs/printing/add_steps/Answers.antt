use Rattle.std.proofs.Common.{vec_items, arith}
use Rattle.planner.specs.Entering.{sheet_of}
use Rattle.page.proofs.Adding.{below_one, below_more}
use Rattle.page.proofs.printing.add_steps.Goals as goal

pub loop-number-init : goal.loop-number-init
loop-number-init c = below_one (sheet_of c.args.planner.now) (vec_items c.args.text.now)

pub loop-number-preserved : goal.loop-number-preserved
loop-number-preserved c =
    below_more (sheet_of c.args.planner.now) c.loop-number.number (vec_items c.args.text.now) (vec_items c.loop-number.text) (vec_items c.add_step.new.text) (omega arith) c.loop-number.invariant c.in_ok-add_step.ensures

pub returns : goal.returns
returns c = c.loop-number.invariant 31 (omega arith)
