use Rattle.chart.proofs.cells.close.Goals as goal

pub loop-k-preserved : goal.loop-k-preserved
loop-k-preserved g c = c.process.ensures _ c.loop-k.invariant
