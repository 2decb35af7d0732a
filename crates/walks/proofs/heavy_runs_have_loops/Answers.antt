use Rattle.walks.proofs.LoopLaws.{heavy_loop}
use Rattle.walks.proofs.heavy_runs_have_loops.Goals as goal

pub returns : goal.returns
returns c = heavy_loop
