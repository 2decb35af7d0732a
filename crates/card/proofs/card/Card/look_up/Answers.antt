use Rattle.std.proofs.Common.{is_err, sym, ap, ◌∙◌}
use Rattle.card.proofs.Finding.{none_is, sound_stands, faulty_empty}
use Rattle.card.specs.Cards.{verdict}
use Rattle.card.specs.Finds.{answers_from}
use Rattle.card.proofs.card.Card.look_up.Goals as goal

pub returns-then-is_err : goal.returns-then-is_err
returns-then-is_err c =
    let card = c.args.self.now.bytes.now in
    none_is c.args.step c.args.rule
    ∙ ap (λ s. answers_from s c.args.step c.args.rule) (faulty_empty (verdict card) (sym (ap is_err c.condition.ensures) ∙ sym c.if-is_err.ensures.value))

pub returns : goal.returns
returns c = c.find.ensures _ (sound_stands (verdict c.args.self.now.bytes.now) (sym (ap is_err c.condition.ensures) ∙ sym c.if-is_err.ensures.value))
