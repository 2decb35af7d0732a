use Rattle.std.proofs.Common.{arith}
use Rattle.chart.proofs.Raising.{mid_row, stage_more}
use Rattle.chart.proofs.cells.stage.Goals as goal

pub raise_row-requires : goal.raise_row-requires
raise_row-requires g c =
    let m = g.E.Entry in
    let to = c.loop-a.invariant.rest c.loop-a.a c.args.by (omega arith) (omega arith) in
    record {
      room = omega arith;
      row = omega arith;
      by = c.requires.by;
      count = c.requires.count;
      to_within = rw to (c.requires.short c.loop-a.a c.args.by (omega arith) (omega arith));
      on_within =
          λ b low. rw (mid_row m.laws c.args.by c.args.count c.loop-a.a b _ _ low c.requires.settled c.loop-a.invariant)
          (c.requires.short c.args.by b (omega arith) low);
    }

pub loop-a-preserved : goal.loop-a-preserved
loop-a-preserved g c =
    stage_more g.E.Entry.laws c.args.by c.args.count c.loop-a.a _ c.loop-a.cells _ (omega arith) (omega arith)
    c.requires.settled c.loop-a.invariant c.raise_row.ensures
