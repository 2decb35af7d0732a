use Rattle.std.proofs.Common.{◌∙◌, arith}
use Rattle.std.proofs.Math.ListN.{length-set}
use Rattle.std.proofs.lemmas.Int.{ints}
use Rattle.waits.proofs.Entries.{entry_more, whole_chart}
use Rattle.waits.proofs.write_chart.Goals as goal

pub loop-k-preserved : goal.loop-k-preserved
loop-k-preserved g c = (
  length-set c.loop-k.chart c.loop-k.k _ ∙ c.loop-k.invariant.0,
  entry_more (g.S.Source.sheet c.args.source.now).told c.loop-k.chart c.loop-k.k _ c.entry.result (omega arith) (omega (arith, ints)) c.entry.ensures c.loop-k.invariant.1,
)

pub returns : goal.returns
returns g c =
    whole_chart (g.S.Source.sheet c.args.source.now).told c.loop-k.chart c.loop-k.invariant.0 (λ m low. c.loop-k.invariant.1 m (omega arith))
