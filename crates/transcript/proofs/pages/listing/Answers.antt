use Rattle.book.proofs.Walking.{walkable}
use Rattle.transcript.proofs.Lines.{listed_once}
use Rattle.transcript.proofs.pages.listing.Goals as goal

pub returns : goal.returns
returns c = record { listed = c.both_texts.ensures; only = listed_once; walks = (walkable c.args.office.now, walkable c.args.tablet.now) }
