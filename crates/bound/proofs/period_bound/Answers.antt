use Rattle.loops.proofs.Searching.{none_found, one_found}
use Rattle.bound.proofs.Bisecting.{blocked_fails}
use Rattle.bound.proofs.period_bound.Goals as goal

pub unreachable-requires : goal.unreachable-requires
unreachable-requires g c =
    none_found _ c.args.counted.now c.find_loop.new.cells c.args.codes.now c.find_loop.new.codes c.in_ok-count.field-0
    c.in_ok-count.ensures c.in-None.is (blocked_fails (c.works_at.ensures.no c.if-works_at.false))

pub returns : goal.returns
returns g c =
    let found = one_found _ c.args.counted.now c.find_loop.new.cells c.args.codes.now c.find_loop.new.codes c.in_ok-count.field-0 c.in_ok-count.ensures c.in-Some.count c.in-Some.is in
    record {
      room = record { hours = c.if-hours-lt1024.false; counted = c.if-counted-lt1024.false; codes = c.if-codes-lt32.false };
      none = blocked_fails (c.works_at.ensures.no c.if-works_at.false);
      hours = c.works_at.ensures.kept;
      counted = found.0;
      loop = found.1;
    }
