use Rattle.std.proofs.lemmas.List.{take_rest}
use Rattle.book.proofs.reading.rest_of.Goals as goal

pub returns : goal.returns
returns c = take_rest c.args.book.now c.args.place
