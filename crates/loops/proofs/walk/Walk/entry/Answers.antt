use Rattle.std.proofs.Common.{refl}
use Rattle.chart.specs.Cells.{at}
use Rattle.loops.proofs.walk.Walk.entry.Goals as goal

pub returns : goal.returns
unfolding at
returns g c = refl
