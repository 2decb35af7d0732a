use Rattle.walks.proofs.Short.{few_below, loop_short}
use Rattle.walks.proofs.loops_are_short.Goals as goal

pub returns : goal.returns
returns c = record { numbers = few_below; loops = loop_short }
