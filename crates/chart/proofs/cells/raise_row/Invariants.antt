use Rattle.chart.specs.Cells.{RowTo}
use Rattle.chart.proofs.cells.raise_row.Given as goal

abbrev pub invariant-loop-b : goal.invariant-loop-b
invariant-loop-b g l =
    RowTo g.E.Entry.neutral g.E.Entry.sum g.E.Entry.under l.row l.by l.b l.initial.cells l.cells
