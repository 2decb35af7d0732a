use Rattle.std.proofs.Common.{arith}
use Rattle.std.proofs.lemmas.Int.{ints}
use Rattle.windows.specs.Placing.{starts}
use Rattle.plan.proofs.Staging.{window_fits}
use Rattle.plan.proofs.choosing.choose_start.Goals as goal

pub in_16_bits-requires : goal.in_16_bits-requires
in_16_bits-requires g c =
    let small = window_fits (g.S.Source.sheet c.args.source.now) (starts c.args.placed.now) c.args.windows.now c.requires.told c.args.step c.requires.from_one c.requires.to_31 c.in-Some-windows.window c.in-Some-windows.is in
    record { from_zero = omega (arith, ints); small = omega (arith, ints) }

pub in_16_bits-requires-2 : goal.in_16_bits-requires-2
in_16_bits-requires-2 g c =
    let small = window_fits (g.S.Source.sheet c.args.source.now) (starts c.args.placed.now) c.args.windows.now c.requires.told c.args.step c.requires.from_one c.requires.to_31 c.in-Some-windows.window c.in-Some-windows.is in
    record { from_zero = omega (arith, ints); small = omega (arith, ints) }
