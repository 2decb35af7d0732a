use Rattle.kinds.proofs.Next.{next_link, stop_later}
use Rattle.walks.proofs.CodeLaws.{code_below}
use Rattle.loops.proofs.Walked.{next_accounts}
use Rattle.loops.proofs.walk.Walk.next_link.Goals as goal

pub unreachable-requires : goal.unreachable-requires
unreachable-requires g c =
    let sheet = g.S.Source.sheet c.args.self.now.source.now in
    let p = c.args.self.now.places.now in
    let stopped = c.requires.stopped in
    let k = c.args.self.now.stop in
    let later = stop_later sheet p stopped.places k c.args.self.now.cells.now stopped.chart stopped.inside stopped.beats in
    let found = next_link sheet p stopped.places k c.args.self.now.cells.now stopped.chart c.args.here k later c.requires.here stopped.inside c.requires.links in
    c.in_default.ensures found.0 found.1.link (code_below sheet.told sheet.sound found.0 found.1.link) (next_accounts found.1)
