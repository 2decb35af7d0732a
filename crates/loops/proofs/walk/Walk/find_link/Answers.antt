use Rattle.std.proofs.Common.{rules}
use Rattle.loops.proofs.Found.{found_below}
use Rattle.loops.proofs.walk.Walk.find_link.Goals as goal

pub returns : goal.returns
returns g c =
    let sheet = g.S.Source.sheet c.args.self.now.source.now in
    let runs = c.find_map.ensures.runs in
    found_below sheet c.args.self.now.places.now c.args.self.now.stop c.args.here c.args.self.now.cells.now _ _ (λ code r q called. search rules)
    runs.0 runs.1 c.find_map.result runs.2
