use Rattle.std.proofs.Common.{◌≤◌, length, subst}
use Rattle.planner.specs.Entering.{sheet_of}
use Rattle.merge.proofs.Both.{whole_book}
use Rattle.merge.specs.Merging.{half}
use Rattle.merge.proofs.merging.take_book.Goals as goal

pub returns : goal.returns
returns c =
    let opened = c.in-Ok.ensures in
    record {
      few = subst (λ b. c.take_items.result ≤ half (length b)) opened.1 c.take_items.ensures.few;
      taken = whole_book c.args.book c.args.bytes.now c.in-Ok.reader opened.1 opened.2 (sheet_of c.args.planner.now) (sheet_of c.take_items.new.planner) _ _ _ _ _ c.take_items.ensures.taken;
    }
