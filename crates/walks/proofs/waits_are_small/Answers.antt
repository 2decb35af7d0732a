use Rattle.walks.proofs.Small.{wait_small}
use Rattle.walks.proofs.waits_are_small.Goals as goal

pub returns : goal.returns
returns c = wait_small
