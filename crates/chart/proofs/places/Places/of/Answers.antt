use Rattle.std.proofs.Common.{◌≡◌, is_some, sym, ap, ◌∙◌, arith}
use Rattle.sheet.specs.Sheets.{present}
use Rattle.chart.proofs.Collecting.{step_there, places_skip, places_more}
use Rattle.chart.proofs.places.Places.of.Goals as goal
use Rattle.chart.proofs.places.Places.of.Goals.{then-is_some, else-is_some}

pub loop-v-preserved : goal.loop-v-preserved
loop-v-preserved g c =
    let s = (g.S.Source.sheet c.args.source.now).told in
    let v = c.loop-v.v in
    let is : present s v ≡ c.is_some.result
    = step_there s v (omega arith) ∙ ap is_some (sym c.step.ensures) ∙ sym c.is_some.ensures in
    elim c.if-is_some.branch [
      | then-is_some w ↦
          rw w.places-is
          (places_more s v c.loop-v.places c.loop-v.invariant (omega arith) (is ∙ w.if-is_some.true))
      | else-is_some w ↦
          rw w.places-is
          (places_skip s v c.loop-v.places c.loop-v.invariant (is ∙ w.if-is_some.false))
    ]
