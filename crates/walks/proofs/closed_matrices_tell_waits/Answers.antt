use Rattle.walks.proofs.Potentials.{row_lawful, row_attains, entries_are_waits}
use Rattle.walks.proofs.closed_matrices_tell_waits.Goals as goal

pub returns : goal.returns
returns c = record { lawful = row_lawful; attained = row_attains; waits = entries_are_waits }
