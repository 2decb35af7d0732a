use Rattle.walks.proofs.Periods.{longer_keeps}
use Rattle.walks.proofs.longer_periods_keep.Goals as goal

pub returns : goal.returns
returns c = longer_keeps
