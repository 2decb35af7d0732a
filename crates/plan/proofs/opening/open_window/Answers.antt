use Rattle.std.proofs.Common.{arith}
use Rattle.std.proofs.lemmas.Int.{ints}
use Rattle.plan.proofs.opening.open_window.Goals as goal

pub returns : goal.returns
returns c = record { first = omega (arith, ints, c.wait.ensures); last = omega (arith, ints, c.wait-2.ensures, c.before_zero.ensures) }
