use Rattle.std.proofs.Common.{◌≡◌, Err, rules, sym, subst}
use Rattle.brews.proofs.Holding.{held_once}
use Rattle.brews.proofs.Lasting.{reached_in_period}
use Rattle.plan.specs.Plans.{Wrote}
use Rattle.plan.proofs.Settling.{wrote_all, wrote_none}
use Rattle.plan.proofs.writing.write_plan.Goals as goal

pub returns-in_err-give_vessels : goal.returns-in_err-give_vessels
returns-in_err-give_vessels g c = λ rule filled _.
    let sheet = g.S.Source.sheet c.args.source.now in
    let same : c.from_residual.result ≡ Err c.in_err-give_vessels.field-0.0 = search rules in
    subst (Wrote sheet.told rule c.args.stock.now c.args.starts.now c.args.starts.now c.args.vessels.now c.give_vessels.new.vessels) (sym same)
    (wrote_none sheet.told rule c.args.stock.now c.args.placed.now filled c.args.starts.now c.args.starts.now _ _ c.in_err-give_vessels.field-0.0 (c.in_err-give_vessels.ensures.if_long c.requires.vessels))

pub returns : goal.returns
returns g c = λ rule filled lawful.
    let sheet = g.S.Source.sheet c.args.source.now in
    wrote_all sheet.told rule c.args.stock.now c.args.placed.now filled _ _ _ _ lawful (λ numbers all. held_once _ c.args.stock.now c.args.placed.now numbers (reached_in_period sheet.told sheet.sound rule c.args.placed.now filled.reached) all) (c.in_ok-give_vessels.ensures.if_long c.requires.vessels) c.write_starts.ensures
