use Rattle.trials.proofs.bound_trial.+loops_from.Given as goal

abbrev pub decreases-loops_from : goal.decreases-loops_from
decreases-loops_from l = l.ties
