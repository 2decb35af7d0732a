use Rattle.brews.proofs.Holding.{held_once}
use Rattle.brews.proofs.Lasting.{reached_in_period}
use Rattle.windows.proofs.Steps.{filled_lawful}
use Rattle.brews.proofs.vessels_held_once.Goals as goal

pub returns : goal.returns
returns c = record {
  numbered = held_once;
  filled = λ s ok rule placed filled. reached_in_period s ok rule placed filled.reached;
  planned = λ s ok rule stock placed numbers filled all.
      held_once s.period stock placed numbers (reached_in_period s ok rule placed filled.reached) all;
  lawful = filled_lawful;
}
