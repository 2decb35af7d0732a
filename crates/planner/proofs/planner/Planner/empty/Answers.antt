use Rattle.planner.proofs.Empty.{empty_kept}
use Rattle.planner.proofs.planner.Planner.empty.Goals as goal

pub invariant_of-result : goal.invariant_of-result
invariant_of-result c = record { kept = empty_kept _ _ c.empty_sheet.ensures c.empty_chart.ensures }
