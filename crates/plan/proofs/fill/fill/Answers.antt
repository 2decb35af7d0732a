use Rattle.plan.proofs.Staging.{first_stage}
use Rattle.windows.proofs.Steps.{step_numbers}
use Rattle.plan.proofs.fill.fill.Goals as goal

pub loop-step-init : goal.loop-step-init
loop-step-init g c = first_stage (g.S.Source.sheet c.args.source.now).told (g.C.Chooser.rule c.args.chooser.now) c.open_windows-windows.result c.open_windows-windows.ensures

pub place-requires : goal.place-requires
place-requires g c =
    let sheet = g.S.Source.sheet c.args.source.now in
    let next = c.in-Some.ensures sheet.told sheet.sound c.loop-step.invariant.told in
    let number = step_numbers sheet.told sheet.sound c.in-Some.step next.waiting.there in
    record { chart = c.requires; stage = c.loop-step.invariant; next = next; from_one = number.0; to_31 = number.1 }

pub returns : goal.returns
returns g c =
    let sheet = g.S.Source.sheet c.args.source.now in
    record { reached = c.loop-step.invariant.reached; none_left = c.in_default.ensures sheet.told sheet.sound c.loop-step.invariant.told }
