use Rattle.std.proofs.Common.{◌-◌, arith}
use Rattle.card_writing.proofs.Bytes.{put_below_one, put_below_more}
use Rattle.card_writing.proofs.placing.put_steps.Goals as goal

pub loop-number-init : goal.loop-number-init
loop-number-init c = put_below_one _ _ c.args.buffer.now c.args.at (omega arith)

pub loop-number-preserved : goal.loop-number-preserved
loop-number-preserved c = put_below_more _ c.loop-number.number (omega arith) c.loop-number.invariant c.put_step-place.ensures.put c.put_step-place.ensures.most

pub returns : goal.returns
returns c = let all = c.loop-number.invariant 31 (omega arith) in record { put = all.put; most = omega (arith, all.most); len = all.len }

pub put_step-place-requires : goal.put_step-place-requires
put_step-place-requires c = let all = c.loop-number.invariant (c.loop-number.number - 1) (omega arith) in omega (arith, all.most)
