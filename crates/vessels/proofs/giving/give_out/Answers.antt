use Rattle.std.proofs.Common.{◌++◌, drop, ap, arith, rules}
use Rattle.std.proofs.lemmas.List.{length-take-le}
use Rattle.vessels.proofs.Settling.{settled_all, settled_missing}
use Rattle.vessels.proofs.giving.give_out.Goals as goal

pub returns : goal.returns
returns c = record {
  if_short = λ short. absurd (omega arith);
  if_long = λ _. settled_all c.in_ok-given.given c.args.numbers.now _ c.in_ok-given.ensures
      (ap (λ front. front ++ drop 31 c.args.numbers.now) c.copy_from_slice.ensures.after);
}

pub returns-in_err-given : goal.returns-in_err-given
returns-in_err-given c = record {
  if_short = λ short. absurd (omega arith);
  if_long = λ _. settled_missing c.from_residual.result c.args.numbers.now (search rules);
}

pub copy_from_slice-requires : goal.copy_from_slice-requires
copy_from_slice-requires c = omega (arith, length-take-le 31 c.args.numbers.now, c.in_ok-given.ensures.long)
