use Rattle.std.proofs.Common.{◌≡◌, rules, sym, subst}
use Rattle.std.specs.Option.{option_map}
use Rattle.plan.specs.Told.{Tells}
use Rattle.windows.specs.Windows.{nothing_placed}
use Rattle.plan.proofs.Openings.{opened, tells_opened}
use Rattle.plan.proofs.opening.open_at.Goals as goal

pub returns : goal.returns
returns g c =
    let sheet = g.S.Source.sheet c.args.source.now in
    let is : c.map.result ≡ option_map (λ _. opened c.args.chart.now c.args.step) c.step.result = search rules in
    subst (Tells sheet.told nothing_placed c.args.step) (sym is) (tells_opened sheet c.args.chart.now c.args.step c.step.result c.requires.chart c.step.ensures)
