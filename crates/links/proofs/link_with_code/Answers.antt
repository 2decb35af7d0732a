use mathlib.Core.Path.{sym}
use Prim.Native.Nat.{◌/◌, ◌%◌, ◌≤◌}
use native.Mathlib.Omega.{arith}
use Rattle.walks.proofs.CodeLaws.{row_past}
use Rattle.links.proofs.link_with_code.Goals as goal

pub returns-in_default : goal.returns-in_default
returns-in_default g c =
    let s = (g.S.Source.sheet c.args.source.now).told in
    let far : 5 ≤ c.args.code / 100 = omega arith in
    sym (row_past s (c.args.code / 100) (c.args.code % 100) far)
