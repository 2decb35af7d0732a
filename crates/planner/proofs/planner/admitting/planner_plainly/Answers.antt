use Rattle.std.proofs.Common.{replicate, pos, refl, arith}
use Rattle.std.proofs.lemmas.List.{length-replicate}
use Rattle.planner.proofs.Admitting.{impossible}
use Rattle.planner.proofs.Charting.{has_lawful, plannable}
use Rattle.planner.proofs.planner.admitting.planner_plainly.Goals as goal

pub invariant_of-result : goal.invariant_of-result
invariant_of-result c = record { kept = ∣ plannable c.args.checked.sheet _ c.plain_chart.new.chart (omega arith) c.in_ok-plain_chart.ensures.written ∣₁ }

pub returns : goal.returns
returns c =
    let given = c.in_ok-plain_chart.ensures in
    (refl, has_lawful c.args.checked.sheet _ c.plain_chart.new.chart (omega arith) given.written, given.working)

pub returns-in_err-plain_chart : goal.returns-in_err-plain_chart
returns-in_err-plain_chart c =
    let blank = replicate 1024 (pos 0) in
    let long = length-replicate 1024 (pos 0) in
    impossible c.args.checked.sheet _ _ blank _ _ _ c.from_residual.ensures.1 c.requires c.in_err-plain_chart.ensures (omega arith)
