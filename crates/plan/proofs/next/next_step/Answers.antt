use Rattle.std.proofs.Common.{◌≡◌, ◌+◌, rules, sym, subst}
use Rattle.std.specs.Option.{option_map}
use Rattle.plan.specs.Next.{NamesNext}
use Rattle.plan.proofs.Nexts.{names_next}
use Rattle.plan.proofs.next.next_step.Goals as goal

pub returns : goal.returns
returns c =
    let is : c.map.result ≡ option_map (λ lead. lead.place + 1) c.leader.result = search rules in
    subst (NamesNext c.args.windows.now c.args.placed.now) (sym is) (names_next c.args.windows.now c.args.placed.now c.leader.result c.leader.ensures)
