use Rattle.std.proofs.Common.{arith, length-set}
use Rattle.std.proofs.lemmas.Option.{MatchOption-at_some}
use Rattle.vessels.proofs.Agreement.{numbered_more}
use Rattle.vessels.proofs.giving.Timetable.give.Goals as goal

pub loop-place-preserved : goal.loop-place-preserved
loop-place-preserved c =
    let number = c.in_ok-numbers.field-0 in
    let due = MatchOption-at_some _ _ number c.in_ok-numbers.ensures.ok_part c.number_for-number.ensures in (
      simp length-set c.loop-place.invariant.0,
      numbered_more c.loop-place.numbers c.loop-place.place number (omega (arith, c.loop-place.invariant.0)) c.loop-place.invariant.1 due,
    )
