use Rattle.std.proofs.Common.{arith}
use Rattle.chart.proofs.Reading.{read}
use Rattle.chart.proofs.cells.get.Goals as goal

pub returns : goal.returns
returns g c = read g.E.Entry.neutral _ c.args.row c.args.column _ (omega arith) c.index-cells-row.is
