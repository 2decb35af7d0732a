use Rattle.windows.proofs.Course.{filled_unique}
use Rattle.windows.proofs.Single.{first_unique, last_unique, slack_unique, next_unique}
use Rattle.windows.proofs.unique_windows.Goals as goal

pub returns : goal.returns
returns c = record { firsts = first_unique; lasts = last_unique; slacks = slack_unique; next = next_unique; filled = filled_unique }
