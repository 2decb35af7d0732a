use Rattle.std.proofs.Common.{Err, sym, ap, ◌∙◌}
use Rattle.std.proofs.lemmas.Result.{err_from_is_err_and}
use Rattle.book.specs.Walks.{items}
use Rattle.card.proofs.Checks.{verdict_short, verdict_long, opened_walk}
use Rattle.card.specs.Cards.{outcome}
use Rattle.card.specs.Faults.{from_book}
use Rattle.card.proofs.checking.check.Goals as goal

pub returns-in_err-reader : goal.returns-in_err-reader
returns-in_err-reader c =
    let card = c.args.card.now in
    let p = err_from_is_err_and c.from_residual.result c.from_residual.ensures.1 in
    let long = c.in_err-reader.ensures in
    p.1 ∙ ap Err (p.2 ∙ ap from_book long.1) ∙ sym (ap outcome (verdict_long card long.0))

pub returns : goal.returns
returns c =
    let card = c.args.card.now in
    let opened = c.in_ok-reader.ensures in
    c.judge_all.ensures (items card) (opened_walk c.in_ok-reader.reader opened) ∙ sym (ap outcome (verdict_short card opened.0))
