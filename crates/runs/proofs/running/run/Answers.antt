use Rattle.planner.specs.Entering.{sheet_of}
use Rattle.std.proofs.Common.{vec_items}
use Rattle.runs.proofs.Courses.{run_taken}
use Rattle.runs.proofs.running.run.Goals as goal

pub returns : goal.returns
returns c =
    run_taken _ c.args.calls.now _ (sheet_of c.take_calls.new.planner) (vec_items c.take_calls.new.notes) c.empty-planner.ensures c.new-notes.ensures.items c.in_ok-take_calls.ensures
