use Rattle.walks.proofs.RunLaws.{no_lawful}
use Rattle.walks.proofs.closed_runs_forbid.Goals as goal

pub returns : goal.returns
returns c = no_lawful
