use Rattle.std.proofs.lemmas.Result.{IfOk-weaker}
use Rattle.transcript.proofs.Lines.{opened_extends, refused_extends}
use Rattle.transcript.proofs.pages.add_book.Goals as goal

pub returns-in-Ok : goal.returns-in-Ok
returns-in-Ok c = IfOk-weaker c.add_items.result _ _ (λ _. opened_extends c.in-Ok.reader c.in-Ok.ensures) c.add_items.ensures

pub returns-in-Err : goal.returns-in-Err
returns-in-Err c = IfOk-weaker c.add_fault.result _ _ (λ _. refused_extends c.in-Err.fault c.in-Err.ensures) c.add_fault.ensures
