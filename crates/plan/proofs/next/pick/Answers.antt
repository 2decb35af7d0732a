use Rattle.std.proofs.Common.{◌∙◌, subst, arith}
use Rattle.std.proofs.lemmas.Int.{ints}
use Rattle.plan.specs.Next.{Leader}
use Rattle.plan.proofs.Nexts.{takes_lead}
use Rattle.plan.proofs.next.pick.Goals as goal

pub returns-in_default-held : goal.returns-in_default-held
returns-in_default-held c = λ slacks is lead.
    let kept = c.if-keeps_lead.ensures in
    takes_lead slacks c.args.place c.in-Some.slack _ c.in-Some-held.candidate (omega (arith, ints)) (is ∙ c.in-Some.is) (subst (Leader slacks c.args.place) c.in-Some-held.is lead) (grind (arith, ints, kept))
