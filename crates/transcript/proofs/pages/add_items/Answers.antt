use Rattle.std.proofs.Common.{string_bytes, ◌∙◌}
use Rattle.book.proofs.Walking.{falls}
use Rattle.transcript.proofs.Lines.{one_more, no_more}
use Rattle.transcript.proofs.pages.add_items.Goals as goal

pub loop-item-smaller : goal.loop-item-smaller
loop-item-smaller c = falls c.in-Some.ensures

pub loop-item-preserved : goal.loop-item-preserved
loop-item-preserved c =
    let step = c.in-Some.ensures in
    let old = c.loop-item.invariant in
    (step.book ∙ old.0, one_more {longer = string_bytes c.add_item.new.text} old.0 old.1 step c.in_ok-add_item.ensures)

pub returns : goal.returns
returns c = no_more c.loop-item.invariant.0 c.loop-item.invariant.1 c.in_default.ensures
