use Rattle.alike.proofs.Carrying.{alike_by_chart, chart_by_alike}
use Rattle.alike.proofs.equal_charts.Goals as goal

pub returns : goal.returns
returns c = λ s u ok fine a b is also. (alike_by_chart s u ok fine a b is also, chart_by_alike s u a b is also)
