use Rattle.card_writing.proofs.Bytes.{PutBelow}
use Rattle.card_writing.specs.Contents.{steps_up_to}
use Rattle.card_writing.proofs.placing.put_steps.Given as goal

abbrev pub invariant-loop-number : goal.invariant-loop-number
invariant-loop-number l = PutBelow 13 (steps_up_to l.sheet.steps) l.initial.buffer l.at l.number l.place l.buffer
