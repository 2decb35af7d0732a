use Rattle.std.proofs.Common.{sym, arith}
use Rattle.std.proofs.lemmas.Int.{ints}
use Rattle.waits.proofs.Entries.{is_small, is_entry}
use Rattle.waits.proofs.entry.Goals as goal

pub narrow-requires : goal.narrow-requires
narrow-requires g c =
    let small = is_small (g.S.Source.sheet c.args.source.now) c.requires.finished c.args.i c.args.j (sym c.if-is_present.ensures) (sym c.if-is_present-2.ensures) in
    let is = c.hours_at.ensures in
    record { low = omega (arith, ints); high = omega (arith, ints) }

pub returns-then-is_present-2 : goal.returns-then-is_present-2
returns-then-is_present-2 g c =
    let small = is_small (g.S.Source.sheet c.args.source.now) c.requires.finished c.args.i c.args.j (sym c.if-is_present.ensures) (sym c.if-is_present-2.ensures) in
    let is = c.hours_at.ensures in
    let same = c.narrow.ensures in
    is_entry (g.S.Source.sheet c.args.source.now) c.requires.finished c.args.i c.args.j _ (sym c.if-is_present.ensures) (sym c.if-is_present-2.ensures) (omega (arith, ints))
