use Rattle.walks.proofs.LinkLaws.{links_hold}
use Rattle.walks.proofs.RunLaws.{along}
use Rattle.walks.proofs.runs_bind.Goals as goal

pub returns : goal.returns
returns c = λ s t k. along s t (links_hold s t k)
