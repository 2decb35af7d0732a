use Rattle.std.proofs.Common.{◌+◌, ◌<◌, ◌≤◌, rules}
use Rattle.choose.specs.Classes.{crowd_at}
use Rattle.choose.proofs.Backwards.{last_below}
use Rattle.choose.proofs.crowd.reaching.Goals as goal

pub returns : goal.returns
returns c =
    last_below _ _ c.args.duration c.find.result
    (λ k. c.args.bound ≤ crowd_at c.args.crowd.now (c.args.start + k)) (λ k. crowd_at c.args.crowd.now (c.args.start + k) < c.args.bound)
    c.rev.ensures.source c.find.ensures.ran
    (λ x q k. search rules) (λ x q k. search rules)
