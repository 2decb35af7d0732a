use Rattle.std.proofs.Common.{◌≡◌, ℕ, ◌/◌, ◌%◌, ◌<◌, length, get_or, pos}
use Rattle.sheet.specs.Waits.{IsEntry}
use Rattle.waits.proofs.write_chart.Given as goal

abbrev pub invariant-loop-k : goal.invariant-loop-k
invariant-loop-k g l =
    (length l.chart ≡ 1024) × ((m : ℕ) → m < l.k → IsEntry (g.S.Source.sheet l.source).told (m / 32) (m % 32) (get_or l.chart m (pos 0)))
