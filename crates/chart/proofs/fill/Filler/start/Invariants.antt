use Rattle.chart.specs.Runs.{StartedTo}
use Rattle.chart.proofs.fill.Filler.start.Given as goal

abbrev pub invariant-loop-row : goal.invariant-loop-row
invariant-loop-row g l =
    let m = g.E.Entry in
    StartedTo m.neutral m.sum m.value m.under m.within (g.S.Source.sheet l.self.source.now).told l.self.places.now l.row 0
    l.cells
