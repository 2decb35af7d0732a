use Rattle.std.proofs.Common.{◌^◌, lit≤}
use Rattle.chart.proofs.Filling.{ends_low}
use Rattle.chart.specs.Laws.{limit}
use Rattle.kinds.specs.Together.{counted_laws}
use Rattle.loops.proofs.walk.Walk.is_part_way.Goals as goal

pub bounds-self-link : goal.bounds-self-link
bounds-self-link g c =
    let sheet = g.S.Source.sheet c.args.self.now.source.now in
    (ends_low counted_laws sheet c.args.self.now.places.now c.args.self.now.known c.args.link.now c.requires.link).1

pub plus-way-requires : goal.plus-way-requires
plus-way-requires g c =
    let walk = c.args.self.now in
    let sheet = g.S.Source.sheet walk.source.now in
    let low = ends_low counted_laws sheet walk.places.now walk.known c.args.link.now c.requires.link in
    record {
      self_within =
          rw (c.of_link-value.ensures, c.period.ensures)
          (counted_laws.more 1 limit _ (lit≤ tt) (counted_laws.one sheet c.args.link.now c.requires.link));
      other_within =
          rw c.entry.ensures (counted_laws.more (2 ^ 33) limit _ (lit≤ tt) (walk.short _ _ low.3 walk.inside));
    }
