use Rattle.std.proofs.Common.{length, sym, ◌∙◌}
use Rattle.book.specs.Walks.{items}
use Rattle.card.proofs.Checks.{verdict_short, verdict_long, opened_walk}
use Rattle.card.proofs.Finding.{no_fault}
use Rattle.card.proofs.lookups.find.Goals as goal

pub returns-in-Ok : goal.returns-in-Ok
returns-in-Ok c = λ sheet sound.
    let card = c.args.card.now in
    let opened = c.in-Ok.ensures in
    c.find_in.ensures (length card) (items card) sheet (opened_walk c.in-Ok.reader opened) (sym (verdict_short card opened.0) ∙ sound)

pub returns-in-Err : goal.returns-in-Err
returns-in-Err c = λ sheet sound. absurd (no_fault (verdict_long c.args.card.now c.in-Err.ensures.0) sound)
