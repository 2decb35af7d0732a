use Rattle.std.proofs.Common.{subst, arith}
use Rattle.std.proofs.lemmas.List.{take_all}
use Rattle.sheet.specs.Waits.{IsChart}
use Rattle.plan.proofs.planning.plan_or_loop.Goals as goal

pub plan_by_chart-requires-clause-chart : goal.plan_by_chart-requires-clause-chart
plan_by_chart-requires-clause-chart g c =
    subst (IsChart (g.S.Source.sheet c.args.source.now).told) (take_all 1024 c.wait_chart.new.chart (omega (arith, c.wait_chart.auto.chart))) c.in_ok-wait_chart.ensures.written.chart
