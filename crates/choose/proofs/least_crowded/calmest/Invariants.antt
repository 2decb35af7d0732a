use Rattle.std.proofs.Common.{◌≡◌, ◌-◌, ◌^◌, ◌<◌}
use Rattle.choose.specs.Calmest.{Calmest}
use Rattle.choose.specs.Classes.{peak}
use Rattle.choose.proofs.least_crowded.calmest.Given as goal

abbrev pub invariant-loop-least : goal.invariant-loop-least
invariant-loop-least l =
    Calmest (peak l.crowd l.duration) l.first l.hour l.best × (l.best < l.end) × (l.least ≡ peak l.crowd l.duration l.best) × (l.hour < 2 ^ 18)

abbrev pub decreases-loop-least : goal.decreases-loop-least
decreases-loop-least l = l.end - l.hour
