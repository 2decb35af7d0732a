use Rattle.std.proofs.Common.{arith}
use Rattle.chart.proofs.Stages.{short_limit, closed_more}
use Rattle.chart.proofs.cells.process.Goals as goal

pub stage-requires : goal.stage-requires
stage-requires g c =
    let m = g.E.Entry in
    record {
      room = c.requires.room;
      by = c.requires.by;
      count = c.requires.count;
      settled = m.laws.antisymmetric _ _ c.requires.turn_low c.requires.turn_high;
      short = short_limit m.laws c.args.count c.args.by _ (omega arith) c.requires.short;
    }

pub returns : goal.returns
returns g c =
    let m = g.E.Entry in
    λ xs done. closed_more m.laws c.args.count c.args.by xs c.args.cells.now _ (omega arith)
    (m.laws.antisymmetric _ _ c.requires.turn_low c.requires.turn_high) c.stage.ensures done
