use Rattle.std.proofs.Common.{Some, Err, sym, ap, ◌∙◌, subst}
use Rattle.std.proofs.lemmas.Result.{err_from_is_err_and}
use Rattle.book.proofs.Walking.{falls}
use Rattle.book.specs.Reading.{Stepped}
use Rattle.card.proofs.Checks.{Checked, begun, turned, refused, broken, finished}
use Rattle.card.proofs.checking.judge_all.Goals as goal

pub loop-item-init : goal.loop-item-init
loop-item-init c = begun c.args.reader.now c.args.end

pub returns-in_err-entry : goal.returns-in_err-entry
returns-in_err-entry c = λ all w.
    let p = err_from_is_err_and c.from_residual.result c.from_residual.ensures.1 in
    let step = subst (λ r. Stepped c.loop-item.reader (Some r) c.read_next.new.self) c.in_err-entry.was c.in-Some.ensures in
    p.1 ∙ ap Err p.2 ∙ broken c.loop-item.invariant _ step all w

pub returns-in_err-stage : goal.returns-in_err-stage
returns-in_err-stage c = λ all w.
    let p = err_from_is_err_and c.from_residual-in_err-stage.result c.from_residual-in_err-stage.ensures.1 in
    let step = subst (λ r. Stepped c.loop-item.reader (Some r) c.read_next.new.self) c.in_ok-entry.was c.in-Some.ensures in
    p.1 ∙ ap Err p.2 ∙ refused c.loop-item.invariant c.in_ok-entry.entry _ step (sym c.in_err-stage.ensures) all w

pub loop-item-smaller : goal.loop-item-smaller
loop-item-smaller c = falls c.in-Some.ensures

pub loop-item-preserved : goal.loop-item-preserved
loop-item-preserved c =
    let step = subst (λ r. Stepped c.loop-item.reader (Some r) c.read_next.new.self) c.in_ok-entry.was c.in-Some.ensures in
    let next = turned c.loop-item.invariant c.in_ok-entry.entry _ step (sym c.in_ok-stage.ensures) in
    subst (Checked c.args.reader.now c.args.end c.read_next.new.self c.in_ok-stage.stage) (sym c.mark.ensures) next

pub returns : goal.returns
returns c = λ all w. c.judge_end.ensures _ ∙ finished c.loop-item.invariant c.in_default.ensures all w
