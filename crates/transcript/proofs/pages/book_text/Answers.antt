use Rattle.std.proofs.Common.{string_bytes, subst}
use Rattle.transcript.specs.Listings.{Extended}
use Rattle.transcript.proofs.pages.book_text.Goals as goal

pub returns : goal.returns
returns c = subst (λ before. Extended before c.args.book.now (string_bytes c.add_book.new.text)) c.in_ok-text.ensures.ok c.in_ok-add_book.ensures
