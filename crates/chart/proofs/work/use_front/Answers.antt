use Rattle.std.proofs.Common.{◌∙◌, length-take-le}
use Rattle.chart.proofs.Fronts.{worked_in_front}
use Rattle.chart.proofs.work.use_front.Goals as goal

pub returns : goal.returns
returns g c =
    worked_in_front g.E.Entry.laws _ c.args.cells.now c.fill_and_close.new.cells c.requires
    (c.fill_and_close.auto.cells ∙ length-take-le 1024 c.args.cells.now c.requires) c.fill_and_close.result
    c.fill_and_close.ensures
