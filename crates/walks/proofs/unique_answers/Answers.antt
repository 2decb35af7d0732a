use Rattle.walks.proofs.Unique.{wait_unique, chart_unique, bound_unique}
use Rattle.walks.proofs.unique_answers.Goals as goal

pub returns : goal.returns
returns c = record { waits = wait_unique; charts = chart_unique; bounds = bound_unique }
