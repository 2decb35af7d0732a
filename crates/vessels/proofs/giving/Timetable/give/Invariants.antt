use Rattle.std.proofs.Common.{◌≡◌, ℕ, ◌<◌, length}
use Rattle.vessels.specs.Vessels.{Numbered}
use Rattle.vessels.proofs.giving.Timetable.give.Given as goal

abbrev pub invariant-loop-place : goal.invariant-loop-place
invariant-loop-place l = (length l.numbers ≡ 31) × ((i : ℕ) → i < l.place → Numbered l.self.period l.stock l.self.placed.now l.numbers i)
