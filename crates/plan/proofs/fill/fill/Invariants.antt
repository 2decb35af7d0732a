use Rattle.plan.specs.Stages.{Stage, left_over}
use Rattle.plan.proofs.fill.fill.Given as goal

abbrev pub invariant-loop-step : goal.invariant-loop-step
invariant-loop-step g l = Stage (g.S.Source.sheet l.source).told (g.C.Chooser.rule l.chooser) l.windows l.placed

abbrev pub decreases-loop-step : goal.decreases-loop-step
decreases-loop-step g l = left_over l.placed
