use Rattle.std.proofs.Common.{sym, arith}
use Rattle.std.proofs.lemmas.List.{set_past}
use Rattle.commands.proofs.changing.set_count.Goals as goal

pub returns-else-kind-lt8 : goal.returns-else-kind-lt8
returns-else-kind-lt8 c = sym (set_past c.args.stock.now c.args.kind c.args.count (omega arith))
