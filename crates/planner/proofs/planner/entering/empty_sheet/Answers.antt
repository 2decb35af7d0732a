use Rattle.std.proofs.Common.{sym, subst}
use Rattle.changes.proofs.Kept.{empty_sound}
use Rattle.sheet.specs.Limits.{FullSound}
use Rattle.planner.proofs.planner.entering.empty_sheet.Goals as goal

pub invariant_of-result : goal.invariant_of-result
invariant_of-result c = record { sound = ∣ subst FullSound (sym c.empty.ensures) empty_sound ∣₁ }
