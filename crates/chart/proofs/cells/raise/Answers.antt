use Rattle.std.proofs.Common.{sym, ◌∙◌, arith}
use Rattle.std.proofs.lemmas.Bool.{true≢false}
use Rattle.chart.proofs.Raising.{cell_raised, cell_stays}
use Rattle.chart.proofs.cells.raise.Goals as goal

pub returns-then-beats : goal.returns-then-beats
returns-then-beats g c =
    cell_raised g.E.Entry.laws _ c.args.row c.args.column c.args.by c.index-cells-row.result
    (omega arith) c.requires.column c.index-cells-row.is
    (λ low. true≢false (sym c.if-beats.true ∙ c.beats.ensures.high low))

pub returns-else-beats : goal.returns-else-beats
returns-else-beats g c =
    cell_stays g.E.Entry.laws _ c.args.row c.args.column c.args.by c.index-cells-row.result
    (omega arith) c.index-cells-row.is (c.beats.ensures.low c.if-beats.false)
