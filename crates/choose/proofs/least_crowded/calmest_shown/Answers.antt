use Rattle.std.proofs.Common.{arith}
use Rattle.choose.specs.Views.{seen}
use Rattle.choose.proofs.Whole.{whole_window, no_classes}
use Rattle.choose.proofs.least_crowded.calmest_shown.Goals as goal

pub returns-then-period-eq0 : goal.returns-then-period-eq0
returns-then-period-eq0 c = no_classes (seen c.args.shown) c.if-period-eq0.true

pub returns : goal.returns
returns c =
    whole_window (seen c.args.shown) c.min-duration.result c.hours_of.result c.calmest.result
    (omega (arith, c.if-period-eq0.false)) c.min-duration.ensures c.hours_of.ensures c.calmest.ensures
