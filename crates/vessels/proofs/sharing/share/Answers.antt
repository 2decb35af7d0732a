use Rattle.std.proofs.Common.{◌<◌, arith, rules, ⊎_elim}
use Rattle.std.proofs.lemmas.Bool.{cases_lt}
use Rattle.vessels.proofs.Meeting.{shares_from, shares_turned, shares_not}
use Rattle.vessels.proofs.sharing.share.Goals as goal

pub returns-then-hours_until-a : goal.returns-then-hours_until-a
returns-then-hours_until-a c =
    let shared = shares_from c.args.period c.args.a c.args.b c.hours_until.result (omega arith) (omega arith) (c.hours_until.ensures.comes (omega arith)) c.if-hours_until-a.true in
    (λ _. shared, λ _. search rules)

pub returns-else-hours_until-a : goal.returns-else-hours_until-a
returns-else-hours_until-a c =
    let back = c.hours_until-else-hours_until-a in (
      λ test.
          let during : back.result < c.args.b.duration = search rules in
          shares_turned _ _ _ (shares_from c.args.period c.args.b c.args.a back.result (omega arith) (omega arith) (back.ensures.comes (omega arith)) during),
      λ both.
          let during : back.result < c.args.b.duration =
          ⊎_elim
          (λ during. during)
          (λ past. absurd (shares_not c.args.period c.args.a c.args.b c.hours_until.result back.result (omega arith) c.hours_until.ensures.fewest back.ensures.fewest c.if-hours_until-a.false past both))
          (cases_lt back.result c.args.b.duration) in
          search rules,
    )
