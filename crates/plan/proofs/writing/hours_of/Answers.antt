use Rattle.std.proofs.Common.{None, rules}
use Rattle.plan.proofs.Settling.{hours_are}
use Rattle.plan.proofs.writing.hours_of.Goals as goal

pub returns : goal.returns
returns c =
    let maps = c.map.ensures.items in
    hours_are c.args.placed.now c.map.result c.told-placed maps.long
    (λ i low. let called = maps.at i None 0 low in search rules)
