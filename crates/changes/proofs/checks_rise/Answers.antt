use Rattle.changes.proofs.Entered.{checks_rise}
use Rattle.changes.proofs.checks_rise.Goals as goal

pub returns : goal.returns
returns c = checks_rise
