use Rattle.std.proofs.Common.{◌+◌, ◌*◌, get_or, pos, w64, SFits, rules}
use Rattle.std.proofs.lemmas.Int.{to_z-of_z}
use Rattle.chart.specs.Cells.{at}
use Rattle.waits.proofs.hours_at.Goals as goal

pub returns : goal.returns
unfolding at
returns c =
    let f : SFits w64 (get_or c.args.cells.now (32 * c.args.row + c.args.column) (record { hours = pos 0 })).hours = search rules in
    to_z-of_z w64 _ f
