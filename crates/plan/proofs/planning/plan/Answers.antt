use Rattle.std.proofs.Common.{refl, arith}
use Rattle.std.proofs.lemmas.Bool.{false≢true}
use Rattle.plan.proofs.Stocks.{some_over}
use Rattle.plan.proofs.planning.plan.Goals as goal

pub returns-then-not-counts_fit : goal.returns-then-not-counts_fit
returns-then-not-counts_fit g c =
    (record { hours = omega arith; counted = omega arith; codes = omega arith; starts = omega arith; vessels = omega arith }, some_over c.args.stock.now (λ all. false≢true (c.if-not-counts_fit.ensures.fits.1 all)), refl)
