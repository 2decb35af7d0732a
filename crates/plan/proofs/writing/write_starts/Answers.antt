use Rattle.std.proofs.Common.{ℕ, ap, length, arith, length-take}
use Rattle.std.proofs.lemmas.List.{length-map}
use Rattle.plan.specs.Plans.{written_start}
use Rattle.plan.proofs.writing.write_starts.Goals as goal

pub copy_from_slice-requires : goal.copy_from_slice-requires
copy_from_slice-requires c =
    omega (arith, length-take {A = ℕ}, length-map c.args.placed.now written_start, ap length c.hours_of.ensures)
