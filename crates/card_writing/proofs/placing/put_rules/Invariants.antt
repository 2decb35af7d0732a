use Rattle.card_writing.proofs.Bytes.{PutBelow}
use Rattle.card_writing.specs.Contents.{rules_up_to}
use Rattle.card_writing.proofs.placing.put_rules.Given as goal

abbrev pub invariant-loop-number : goal.invariant-loop-number
invariant-loop-number l = PutBelow 7 (rules_up_to l.sheet.rules) l.initial.buffer l.at l.number l.place l.buffer
