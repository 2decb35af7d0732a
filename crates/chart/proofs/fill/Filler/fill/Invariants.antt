use Rattle.chart.specs.Runs.{FilledTo}
use Rattle.chart.proofs.fill.Filler.fill.Given as goal

abbrev pub invariant-loop-code : goal.invariant-loop-code
invariant-loop-code g l =
    let m = g.E.Entry in
    FilledTo m.neutral m.sum m.value m.under m.within (g.S.Source.sheet l.self.source.now).told l.self.places.now l.code
    l.cells
