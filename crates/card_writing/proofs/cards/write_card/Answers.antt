use mathlib.Core.Logic.{∥∥₁_elim}
use Rattle.std.proofs.Common.{arith}
use Rattle.card_writing.proofs.Finished.{put_written, put_stands}
use Rattle.card_writing.proofs.Whole.{full_prop}
use Rattle.card_writing.proofs.cards.write_card.Goals as goal

pub returns : goal.returns
returns c =
    let checked = c.args.checked.now in
    let ok = ∥∥₁_elim checked.sound (full_prop checked.sheet) (λ full. full) in
    let put = c.put_card.ensures in
    record {
      written = put_written put.put (omega arith);
      stands = put_stands checked.sheet ok put.put put.most;
    }
