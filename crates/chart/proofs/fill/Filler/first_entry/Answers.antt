use Rattle.std.proofs.Common.{refl, inl, inr, arith}
use Rattle.chart.specs.Laws.{limit}
use Rattle.chart.proofs.Filling.{floor_edge, ceiling_edge, to_zero, from_zero, both_edge}
use Rattle.chart.proofs.fill.Filler.first_entry.Goals as goal

pub plus-requires : goal.plus-requires
plus-requires g c =
    let m = g.E.Entry in
    let sheet = g.S.Source.sheet c.args.self.now.source.now in
    let first = to_zero m.laws sheet c.args.self.now.places.now c.args.self.now.known c.args.a c.args.b _ c.requires.from (omega arith) c.requires.started in
    let last = from_zero m.laws sheet c.args.self.now.places.now c.args.self.now.known c.args.a c.args.b _ c.requires.to (omega arith) c.requires.started in record {
      self_within = rw c.get-to.ensures (m.laws.more 1 limit _ (omega arith) (first.edge (inr refl)));
      other_within = rw c.get-on.ensures (m.laws.more 1 limit _ (omega arith) (last.edge (inl refl)));
    }

pub returns-then-a-eq0 : goal.returns-then-a-eq0
returns-then-a-eq0 g c =
    floor_edge g.E.Entry.laws (g.S.Source.sheet c.args.self.now.source.now) c.args.self.now.places.now c.args.self.now.known c.args.a
    c.args.b _ c.if-a-eq0.true c.if-a-b.false c.requires.to c.entry_with_code.ensures

pub returns-then-b-eq0 : goal.returns-then-b-eq0
returns-then-b-eq0 g c =
    ceiling_edge g.E.Entry.laws (g.S.Source.sheet c.args.self.now.source.now) c.args.self.now.places.now c.args.self.now.known c.args.a
    c.args.b _ c.if-b-eq0.true c.if-a-b.false c.requires.from c.entry_with_code-then-b-eq0.ensures

pub returns-else-b-eq0 : goal.returns-else-b-eq0
returns-else-b-eq0 g c =
    let m = g.E.Entry in
    both_edge m.laws (g.S.Source.sheet c.args.self.now.source.now) c.args.self.now.places.now c.args.self.now.known c.args.a c.args.b
    c.args.cells.now c.get-to.result c.get-on.result _ c.requires.from c.requires.to c.if-a-b.false c.if-a-eq0.false
    c.if-b-eq0.false c.requires.started c.get-to.ensures c.get-on.ensures c.plus.ensures
