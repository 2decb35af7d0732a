use Rattle.planner.specs.Entering.{sheet_of}
use Rattle.std.proofs.Common.{vec_items}
use Rattle.page.proofs.Adding.{StepsBelow}
use Rattle.page.proofs.printing.add_steps.Given as goal

abbrev pub invariant-loop-number : goal.invariant-loop-number
invariant-loop-number l = StepsBelow (sheet_of l.planner) l.number (vec_items l.initial.text) (vec_items l.text)
