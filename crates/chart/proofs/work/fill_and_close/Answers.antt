use Rattle.std.proofs.Common.{arith}
use Rattle.chart.proofs.Filling.{filled_closed}
use Rattle.chart.proofs.Working.{worked}
use Rattle.chart.proofs.work.fill_and_close.Goals as goal

pub close-requires : goal.close-requires
close-requires g c =
    let sheet = g.S.Source.sheet c.args.source.now in
    let is = c.of-places.ensures in
    record {
      room = omega arith;
      count = is.few;
      closed = filled_closed g.E.Entry.laws sheet c.of-places.result is _ c.fill.ensures;
    }

pub returns-in-None : goal.returns-in-None
returns-in-None g c =
    let sheet = g.S.Source.sheet c.args.source.now in
    let is = c.of-places.ensures in
    record {
      places = is;
      worked =
          worked g.E.Entry.laws sheet c.of-places.result is _ c.fill.ensures c.of-places.result.count _ (omega arith)
          c.in-None.ensures;
    }

pub returns-in-Some : goal.returns-in-Some
returns-in-Some g c =
    let sheet = g.S.Source.sheet c.args.source.now in
    let is = c.of-places.ensures in
    let closing = c.in-Some.ensures in
    let low = closing.0 in
    record {
      places = is;
      inside = low;
      worked =
          worked g.E.Entry.laws sheet c.of-places.result is _ c.fill.ensures c.in-Some.position _ (omega arith)
          closing.1;
      beats = closing.2;
    }
