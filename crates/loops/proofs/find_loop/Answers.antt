use Rattle.std.proofs.Common.{refl}
use Rattle.kinds.proofs.Measures.{closed_matrix}
use Rattle.kinds.proofs.Weighing.{hours_together}
use Rattle.walks.proofs.Potentials.{row_lawful}
use Rattle.loops.proofs.Fronts.{stopped_front}
use Rattle.loops.proofs.find_loop.Goals as goal

pub returns-in-Ok : goal.returns-in-Ok
returns-in-Ok g c =
    let sheet = g.S.Source.sheet c.args.source.now in
    let worked = c.in-Ok.ensures in
    let chart = worked.chart in
    (∣ (_, row_lawful sheet.told sheet.sound _ (closed_matrix hours_together sheet _ chart.places _ chart.worked) 0 refl) ∣₁, worked.rest, refl)

pub write_from_front-count-requires-clause-stopped :
    goal.write_from_front-count-requires-clause-stopped
write_from_front-count-requires-clause-stopped g c =
    let arm = c.in-Err-Beaten in
    stopped_front _ c.args.cells.now c.work_out.new.cells _ arm.places arm.position arm.field-0-is arm.ensures
    c.work_out.auto.cells
