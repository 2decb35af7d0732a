use Rattle.std.proofs.Common.{◌^◌, sym, subst}
use Rattle.chart.specs.Cells.{Short}
use Rattle.kinds.specs.Together.{no_link, CountedWithin}
use Rattle.loops.proofs.write_from_front.Goals as goal

pub invariant_of-walk : goal.invariant_of-walk
invariant_of-walk g c =
    let stopped = c.requires.stopped in
    record {
      known = stopped.places;
      inside = stopped.inside;
      short = subst (Short no_link CountedWithin c.args.places.now.count (2 ^ 33)) (sym c.in-Some.ensures.cases.same) stopped.chart.short;
    }
