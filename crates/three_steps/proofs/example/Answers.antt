use Rattle.std.proofs.Common.{ℕ, Some, ap, ◌∙◌}
use Rattle.sheet.specs.declared.forms.Rule.TheVariants.{After}
use Rattle.sheet.specs.declared.forms.Sheet.{Sheet}
use Rattle.sheet.specs.Edits.{with_step, with_rule}
use Rattle.three_steps.specs.Example.{mash, ferment, crop}
use Rattle.three_steps.proofs.example.Goals as goal

abbrev with_span : Sheet → ℕ → Sheet
with_span sheet hours =
    record { steps = sheet.steps; rules = sheet.rules; period = sheet.period; span = hours; stock = sheet.stock }

pub returns : goal.returns
returns c =
    c.set_rule-3.ensures
    ∙ ap (λ (s : Sheet). with_rule s 3 (After 3 2 2 2))
    (c.set_rule-2.ensures
    ∙ ap (λ (s : Sheet). with_rule s 2 (After 2 3 0 0))
    (c.set_rule.ensures
    ∙ ap (λ (s : Sheet). with_rule s 1 (After 1 2 0 0))
    (c.set_step-3.ensures
    ∙ ap (λ (s : Sheet). with_step s 3 (Some crop))
    (c.set_step-2.ensures
    ∙ ap (λ (s : Sheet). with_step s 2 (Some ferment))
    (c.set_step.ensures
    ∙ ap (λ (s : Sheet). with_step (with_span s 60) 1 (Some mash)) c.empty-sheet.ensures)))))
