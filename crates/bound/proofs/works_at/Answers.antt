use Rattle.std.proofs.Common.{sym, ◌∙◌, subst}
use Rattle.sheet.specs.Layers.{at_period, other_period}
use Rattle.bound.proofs.Bisecting.{worked_works, worked_blocked, worked_kept, as_it_is, blocked_back}
use Rattle.bound.specs.Bounds.{Works, Blocked}
use Rattle.bound.proofs.works_at.Goals as goal

pub returns : goal.returns
returns g c =
    let sheet = g.S.Source.sheet c.args.source.now in
    let hours = c.args.period in
    let other = other_period sheet hours in
    let same = as_it_is hours c.requires.low c.requires.high in
    let told = sym c.is_ok.ensures.value in
    record {
      kept = worked_kept other c.args.hours.now c.work_at.new.hours c.requires.room c.work_at.result c.work_at.ensures;
      yes = λ ok. subst (Works sheet.told) same (worked_works other c.args.hours.now c.work_at.new.hours c.requires.room c.work_at.result c.work_at.ensures (told ∙ ok));
      no = λ fails.
          blocked_back sheet.told hours
          (subst (λ p. Blocked (at_period sheet.told p) p) same (worked_blocked other c.args.hours.now c.work_at.new.hours c.requires.room c.work_at.result c.work_at.ensures (told ∙ fails)));
    }
