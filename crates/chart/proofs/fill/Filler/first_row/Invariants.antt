use Rattle.chart.specs.Runs.{StartedTo}
use Rattle.chart.proofs.fill.Filler.first_row.Given as goal

abbrev pub invariant-loop-b : goal.invariant-loop-b
invariant-loop-b g l =
    let m = g.E.Entry in
    StartedTo m.neutral m.sum m.value m.under m.within (g.S.Source.sheet l.self.source.now).told l.self.places.now l.row l.b
    l.cells
