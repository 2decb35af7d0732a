use Rattle.chart.specs.Cells.{ClosedTo}
use Rattle.chart.proofs.cells.close.Given as goal

abbrev pub invariant-loop-k : goal.invariant-loop-k
invariant-loop-k g l =
    ClosedTo g.E.Entry.neutral g.E.Entry.sum g.E.Entry.under g.E.Entry.within l.count l.k l.initial.cells l.cells
