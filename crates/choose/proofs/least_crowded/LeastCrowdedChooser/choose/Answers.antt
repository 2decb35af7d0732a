use Rattle.std.proofs.Common.{sym}
use Rattle.choose.specs.Views.{seen}
use Rattle.choose.proofs.Whole.{least_crowded_is, least_crowded_only}
use Rattle.choose.proofs.least_crowded.LeastCrowdedChooser.choose.Goals as goal

pub returns : goal.returns
returns c =
    let one = least_crowded_only (seen c.args.shown) c.calmest_shown.result c.calmest_shown.ensures in
    record { value = sym (one.only _ (least_crowded_is (seen c.args.shown))); calmest = one }
