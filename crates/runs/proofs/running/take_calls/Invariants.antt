use Rattle.planner.specs.Entering.{sheet_of}
use Rattle.std.proofs.Common.{vec_items}
use Rattle.runs.specs.Turns.{Running}
use Rattle.runs.proofs.running.take_calls.Given as goal

abbrev pub invariant-loop-call : goal.invariant-loop-call
invariant-loop-call l = Running (sheet_of l.initial.planner) l.calls (vec_items l.initial.notes) l.call (sheet_of l.planner) (vec_items l.notes)
