use Rattle.std.proofs.Common.{◌+◌, ◌<◌, ◌≤◌, length, sym, subst, arith, rules}
use Rattle.chart.proofs.Filling.{ends_low}
use Rattle.kinds.specs.Together.{counted_laws}
use Rattle.loops.proofs.Walked.{Walked, walked_none, room, walked_more, walked_falls, walked_back}
use Rattle.loops.specs.Loops.{LoopWritten}
use Rattle.loops.proofs.walk.Walk.write_loop.Given as given
use Rattle.loops.proofs.walk.Walk.write_loop.Goals as goal
use Rattle.loops.proofs.walk.Walk.write_loop.Goals.{After-next_link-link}

-- so far fewer than 32 links were walked
few : (g : given.Over) (c : After-next_link-link g) → c.loop-here.count < 32
few g c = room (g.S.Source.sheet c.args.self.now.source.now) c.requires.stopped c.loop-here.invariant c.next_link-link.result c.next_link-link.ensures.link c.next_link-link.ensures.accounts

pub loop-here-init : goal.loop-here-init
loop-here-init g c = walked_none (g.S.Source.sheet c.args.self.now.source.now) c.requires.stopped c.args.codes.now

pub put_code-requires : goal.put_code-requires
put_code-requires g c =
    let h : c.loop-here.count < 32 = few g (goal.at.put_code-requires g c).After-next_link-link in
    let k = c.loop-here.auto.codes in
    let l : 32 ≤ length c.args.codes.now = c.requires.codes in
    omega arith

pub overflow_add-count : goal.overflow_add-count
overflow_add-count g c = let h : c.loop-here.count < 32 = few g (goal.at.overflow_add-count g c).After-next_link-link in search rules

pub bounds-self-link : goal.bounds-self-link
bounds-self-link g c =
    (ends_low counted_laws (g.S.Source.sheet c.args.self.now.source.now) c.args.self.now.places.now c.args.self.now.known c.next_link-link.result c.next_link-link.ensures.link).1

pub returns-then-here-self : goal.returns-then-here-self
returns-then-here-self g c =
    let sheet = g.S.Source.sheet c.args.self.now.source.now in
    let h : c.loop-here.count < 32 = few g (goal.at.returns-then-here-self g c).After-next_link-link in
    let l : 32 ≤ length c.args.codes.now = c.requires.codes in
    subst (λ codes. LoopWritten sheet.told c.args.codes.now codes (c.loop-here.count + 1)) (sym c.put_code.ensures)
    (walked_back sheet c.requires.stopped c.loop-here.invariant c.next_link-link.result c.next_link-link.ensures.link c.next_link-link.ensures.accounts c.if-here-self.true (omega arith))

pub loop-here-smaller : goal.loop-here-smaller
loop-here-smaller g c =
    walked_falls (g.S.Source.sheet c.args.self.now.source.now) c.requires.stopped c.loop-here.invariant c.next_link-link.result c.next_link-link.ensures.link c.next_link-link.ensures.accounts c.if-here-self.false

pub loop-here-preserved : goal.loop-here-preserved
loop-here-preserved g c =
    let sheet = g.S.Source.sheet c.args.self.now.source.now in
    let h : c.loop-here.count < 32 = few g (goal.at.loop-here-preserved g c).After-next_link-link in
    let l : 32 ≤ length c.args.codes.now = c.requires.codes in
    subst (Walked sheet.told c.args.self.now.places.now c.args.self.now.stop c.args.self.now.cells.now c.args.codes.now _ (c.loop-here.count + 1)) (sym c.put_code.ensures)
    (walked_more sheet c.requires.stopped c.loop-here.invariant c.next_link-link.result c.next_link-link.ensures.link c.next_link-link.ensures.accounts c.if-here-self.false (omega arith))
