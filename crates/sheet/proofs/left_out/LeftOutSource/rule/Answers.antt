use Rattle.std.proofs.Common.{sym, ap, ◌∙◌}
use Rattle.sheet.specs.declared.forms.Rule.TheVariants.{Free}
use Rattle.sheet.specs.Sheets.{rule_at}
use Rattle.sheet.specs.Layers.{without_rule}
use Rattle.sheet.proofs.Numbered.{numbered_cleared}
use Rattle.sheet.proofs.left_out.LeftOutSource.rule.Goals as goal

pub returns-then-number-self : goal.returns-then-number-self
returns-then-number-self g c =
    let below = (g.S.Source.sheet c.args.self.now.below.now).told in
    let out = c.args.self.now.number in
    sym (ap (rule_at (without_rule below out)) c.if-number-self.true ∙ numbered_cleared Free below.rules out)
