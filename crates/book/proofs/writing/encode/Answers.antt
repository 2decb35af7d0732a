use Rattle.book.proofs.Writes.{wrote_reads_back}
use Rattle.book.proofs.writing.encode.Goals as goal

pub returns : goal.returns
returns c = record { wrote = c.put_command.ensures; back = wrote_reads_back c.put_command.ensures }
