use Rattle.chart.specs.Positions.{PlacesTo}
use Rattle.chart.proofs.places.Places.of.Given as goal

abbrev pub invariant-loop-v : goal.invariant-loop-v
invariant-loop-v g l = PlacesTo (g.S.Source.sheet l.source).told l.v l.places
