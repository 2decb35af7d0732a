use Rattle.figures.proofs.figures_hold.Goals as goal
use Rattle.figures.proofs.Shown.{figures}

pub returns : goal.returns
returns c = figures
