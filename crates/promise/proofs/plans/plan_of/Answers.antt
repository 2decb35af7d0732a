use Rattle.std.proofs.Common.{ℕ, List, replicate}
use Rattle.std.proofs.lemmas.List.{length-replicate}
use Rattle.promise.proofs.Planning.{plan_given}
use Rattle.promise.proofs.plans.plan_of.Goals as goal

pub returns : goal.returns
returns g c =
    let s = g.S.Source.sheet c.args.source.now in
    let given = c.in_ok-plan.ensures in
    let blank : List ℕ = replicate 31 0 in
    let long = length-replicate {A = ℕ} 31 0 in
    plan_given s.told s.sound (g.C.Chooser.rule c.args.chooser.now) c.args.stock.now _ blank blank long long given.counts given.plan
