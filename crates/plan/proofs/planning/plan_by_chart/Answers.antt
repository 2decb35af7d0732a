use Rattle.windows.proofs.Steps.{filled_lawful}
use Rattle.plan.proofs.planning.plan_by_chart.Goals as goal

pub returns : goal.returns
returns g c =
    let s = g.S.Source.sheet c.args.source.now in
    let rule = g.C.Chooser.rule c.args.chooser.now in
    let filled = c.fill-placed.ensures in
    c.write_plan.ensures rule filled (filled_lawful s.told s.sound c.args.chart.now c.requires.chart rule c.fill-placed.result filled)
