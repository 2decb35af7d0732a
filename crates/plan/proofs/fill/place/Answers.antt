use Rattle.plan.proofs.Staging.{next_stage, next_fewer}
use Rattle.plan.proofs.fill.place.Goals as goal

pub returns : goal.returns
returns g c =
    let sheet = g.S.Source.sheet c.args.source.now in
    let rule = g.C.Chooser.rule c.args.chooser.now in
    record {
      stage = next_stage sheet rule c.args.chart.now c.requires.chart c.args.windows.now c.narrow.new.windows c.args.placed.now c.args.step c.choose_start-chosen.result c.requires.stage c.requires.next c.requires.from_one c.requires.to_31 c.choose_start-chosen.ensures c.narrow.ensures;
      fewer = next_fewer sheet rule c.args.chart.now c.requires.chart c.args.windows.now c.narrow.new.windows c.args.placed.now c.args.step c.choose_start-chosen.result c.requires.stage c.requires.next c.requires.from_one c.requires.to_31 c.choose_start-chosen.ensures c.narrow.ensures;
    }
