use Rattle.chart.specs.Cells.{StageTo}
use Rattle.chart.proofs.cells.stage.Given as goal

abbrev pub invariant-loop-a : goal.invariant-loop-a
invariant-loop-a g l =
    StageTo g.E.Entry.neutral g.E.Entry.sum g.E.Entry.under l.by l.count l.a l.initial.cells l.cells
