use Rattle.loops.proofs.Walked.{left, Walked}
use Rattle.loops.proofs.walk.Walk.write_loop.Given as goal

abbrev pub invariant-loop-here : goal.invariant-loop-here
invariant-loop-here g l = Walked (g.S.Source.sheet l.self.source.now).told l.self.places.now l.self.stop l.self.cells.now l.initial.codes l.here l.count l.codes

abbrev pub decreases-loop-here : goal.decreases-loop-here
decreases-loop-here g l = left l.self.stop l.self.cells.now l.here
