use Rattle.std.proofs.Common.{Some, None}
use Rattle.walks.proofs.CodeLaws.{told_as}
use Rattle.loops.proofs.Found.{found_none, found_at}
use Rattle.loops.proofs.walk.Walk.try_code.Goals as goal

pub accounts-requires : goal.accounts-requires
accounts-requires g c =
    let sheet = g.S.Source.sheet c.args.self.now.source.now in
    record {
      here = c.requires;
      link = (told_as sheet.told sheet.sound c.args.code (Some c.in_ok-link.link) c.in_ok-link.ensures).0;
    }

pub returns-in_err-link : goal.returns-in_err-link
returns-in_err-link g c =
    let sheet = g.S.Source.sheet c.args.self.now.source.now in
    found_none sheet c.args.self.now.places.now c.args.self.now.stop c.args.here c.args.self.now.cells.now c.args.code
    (told_as sheet.told sheet.sound c.args.code None c.in_err-link.ensures) _ cc

pub returns : goal.returns
returns g c =
    let sheet = g.S.Source.sheet c.args.self.now.source.now in
    let tells = told_as sheet.told sheet.sound c.args.code (Some c.in_ok-link.link) c.in_ok-link.ensures in
    found_at sheet c.args.self.now.places.now c.args.self.now.stop c.args.here c.args.self.now.cells.now c.args.code c.in_ok-link.link tells.0 tells.1
    c.accounts.result c.accounts.ensures c.then_some.result c.then_some.ensures
