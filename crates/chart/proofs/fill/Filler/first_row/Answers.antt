use Rattle.std.proofs.Common.{arith}
use Rattle.chart.proofs.Filling.{started_more}
use Rattle.chart.proofs.fill.Filler.first_row.Goals as goal

pub loop-b-preserved : goal.loop-b-preserved
loop-b-preserved g c =
    let m = g.E.Entry in
    let sheet = g.S.Source.sheet c.args.self.now.source.now in
    rw c.put.ensures
    (started_more m.laws sheet c.args.self.now.places.now c.args.self.now.known c.args.row c.loop-b.b c.loop-b.cells _ c.requires.row
    (omega arith) (omega arith) c.loop-b.invariant c.first_entry-entry.ensures)
