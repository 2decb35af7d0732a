use Rattle.std.proofs.Common.{rules}
use Rattle.vessels.specs.Vessels.{Taken}
use Rattle.vessels.proofs.FirstHit.{first_hit}
use Rattle.vessels.proofs.giving.Timetable.vessel_for.Goals as goal

pub returns : goal.returns
returns c =
    let found = first_hit _ _ 1 c.args.stock c.find.result
    (λ vessel. Taken c.args.self.now.period c.args.self.now.placed.now c.args.numbers.now c.args.place c.args.step vessel → ⊥)
    (λ vessel. Taken c.args.self.now.period c.args.self.now.placed.now c.args.numbers.now c.args.place c.args.step vessel)
    c.new.ensures.start c.new.ensures.end c.new.ensures.exhausted c.find.ensures.ran
    (λ x q k. search rules) (λ x q k. search rules) in
    search rules
