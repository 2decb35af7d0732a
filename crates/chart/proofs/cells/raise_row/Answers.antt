use Rattle.std.proofs.Common.{arith}
use Rattle.chart.proofs.Raising.{row_more}
use Rattle.chart.proofs.cells.raise_row.Goals as goal

pub relax-requires : goal.relax-requires
relax-requires g c =
    let m = g.E.Entry in
    let still = c.loop-b.invariant.rest c.args.by c.loop-b.b (omega arith) (λ e h. omega arith) in
    record {
      room = omega arith;
      row = omega arith;
      by = omega arith;
      column = omega arith;
      to_within = rw c.get-to.ensures c.requires.to_within;
      on_within = rw still (c.requires.on_within c.loop-b.b (omega arith));
    }

pub loop-b-preserved : goal.loop-b-preserved
loop-b-preserved g c =
    row_more g.E.Entry.laws c.args.row c.args.by c.loop-b.b _ c.loop-b.cells _ c.get-to.result (omega arith)
    c.loop-b.invariant c.get-to.ensures c.relax.ensures
