use Rattle.std.proofs.Common.{subst, arith}
use Rattle.sheet.specs.Waits.{IsChart}
use Rattle.std.proofs.lemmas.List.{take_all}
use Rattle.promise.proofs.charts.chart_of.Goals as goal

pub returns : goal.returns
returns g c =
    subst (IsChart (g.S.Source.sheet c.args.source.now).told) (take_all 1024 c.wait_chart.new.chart (omega (arith, c.wait_chart.auto.chart))) c.in_ok-wait_chart.ensures.written.chart
