use Rattle.std.proofs.Common.{◌∙◌}
use Rattle.promise.proofs.Keeping.{fourteen, chart_later, plan_later, compared}
use Rattle.promise.proofs.promise.keep.Goals as goal

pub returns : goal.returns
returns g c =
    let s = g.A.Source.sheet c.args.source.now in
    let u = g.B.Source.sheet c.args.other.now in
    let rule = g.C.Chooser.rule c.args.chooser.now in
    let first = c.chart_of-first in
    let second = c.chart_of-second in
    let other = chart_later c.args.hours.now first.new.hours c.args.counted.now first.new.counted c.args.codes.now first.new.codes first.auto.hours first.auto.counted first.auto.codes u.told second.result second.ensures in
    record {
      runs = c.in_ok-ran.ensures;
      fourteen = fourteen;
      first_chart = first.ensures;
      second_chart = other;
      compared = compared s u c.args.hours.now c.args.counted.now c.args.codes.now first.result second.result c.compare-same.result first.ensures other c.compare-same.ensures;
      planned = plan_later c.args.hours.now second.new.hours c.args.counted.now second.new.counted c.args.codes.now second.new.codes
          (second.auto.hours ∙ first.auto.hours) (second.auto.counted ∙ first.auto.counted) (second.auto.codes ∙ first.auto.codes) s.told rule c.args.stock.now c.plan_of-plan.result c.plan_of-plan.ensures;
    }
