use Rattle.std.proofs.Common.{refl, arith}
use Rattle.planner.proofs.Charting.{plannable, by_chart}
use Rattle.planner.proofs.planner.entering.planner_for.Goals as goal

pub invariant_of-result : goal.invariant_of-result
invariant_of-result c = record { kept = ∣ plannable c.args.checked.sheet _ c.wait_chart.new.chart (omega arith) c.in_ok-wait_chart.ensures.written ∣₁ }

pub returns : goal.returns
returns c =
    let last = c.wait_chart.new in
    by_chart c.args.checked.sheet _ (record { hours = last.hours; counted = last.counted; chart = last.chart; codes = last.codes }) _ refl c.in_ok-wait_chart.ensures (omega arith)
