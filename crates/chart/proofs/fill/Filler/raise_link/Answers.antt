use Rattle.std.proofs.Common.{Some, None, arith}
use Rattle.walks.proofs.CodeLaws.{told_as}
use Rattle.chart.proofs.Filling.{ends_low, filled_skip, filled_more}
use Rattle.chart.proofs.fill.Filler.raise_link.Goals as goal

pub raise_between-requires : goal.raise_between-requires
raise_between-requires g c =
    let sheet = g.S.Source.sheet c.args.self.now.source.now in
    let tells = told_as sheet.told sheet.sound c.args.code (Some c.in-Some.link) c.in-Some.ensures in
    let low = ends_low g.E.Entry.laws sheet c.args.self.now.places.now c.args.self.now.known c.in-Some.link tells.0 in
    let from = low.2 in
    let to = low.3 in
    let few = c.args.self.now.known.few in
    record { room = c.requires.room; from = low.0; to = low.1; row = omega arith; column = omega arith }

pub returns-in-Some : goal.returns-in-Some
returns-in-Some g c =
    let m = g.E.Entry in
    let sheet = g.S.Source.sheet c.args.self.now.source.now in
    let tells = told_as sheet.told sheet.sound c.args.code (Some c.in-Some.link) c.in-Some.ensures in
    filled_more m.laws sheet c.args.self.now.places.now c.args.self.now.known c.args.code c.in-Some.link c.of_link-by.result
    c.args.cells.now _ tells.0 tells.1
    (rw c.period.ensures at c.of_link-by.ensures) c.raise_between.ensures c.requires.filled

pub returns-in_default : goal.returns-in_default
returns-in_default g c =
    let m = g.E.Entry in
    let sheet = g.S.Source.sheet c.args.self.now.source.now in
    filled_skip m.laws sheet c.args.self.now.places.now c.args.self.now.known c.args.code c.args.cells.now
    (told_as sheet.told sheet.sound c.args.code None c.in_default.ensures) c.requires.filled
