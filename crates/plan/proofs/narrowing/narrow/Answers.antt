use Rattle.plan.proofs.Narrowings.{narrows}
use Rattle.plan.proofs.narrowing.narrow.Goals as goal

pub returns : goal.returns
returns c = narrows c.args.chart.now c.args.placed c.args.hour c.args.windows.now c.narrow_each.new.windows c.narrow_each.ensures.long c.narrow_each.ensures.each
