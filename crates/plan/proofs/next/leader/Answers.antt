use Rattle.std.proofs.Common.{◌≡◌, ◌+◌, [], ◌∷◌, ◌++◌, length, sym, ap, ◌∙◌, subst, arith, length-append}
use Rattle.std.proofs.lemmas.Iterator.{YieldsList-from_slice, YieldsList-from_zip}
use Rattle.std.proofs.lemmas.Iterator.Consumers.{YieldsList-from_enumerate, YieldsList-turn, YieldsList-end}
use Rattle.plan.specs.Next.{slacks_left, Leader}
use Rattle.plan.proofs.Nexts.{length_rows, place_at, slack_at}
use Rattle.plan.proofs.next.leader.Goals as goal

pub loop-place-preserved : goal.loop-place-preserved
loop-place-preserved c =
    let slacks = slacks_left c.args.windows.now c.args.placed.now in
    let turn = YieldsList-turn (YieldsList-from_enumerate (YieldsList-from_zip (YieldsList-from_slice c.args.windows.now (cc)) (YieldsList-from_slice c.args.placed.now (cc))) (cc)) c.loop-place.yielded c.loop-place.place-iterator c.loop-place.yielded_by c.next.result c.next.new.self (c.in-Some.place, (c.in-Some.window, c.in-Some.step)) c.in-Some.is c.next.ensures.steps in
    let place : c.in-Some.place ≡ length c.loop-place.yielded =
    place_at c.args.windows.now c.args.placed.now c.told-windows c.told-placed (length c.loop-place.yielded) c.in-Some.place c.in-Some.window.now c.in-Some.step.now turn.0 turn.1 in
    let slack = slack_at c.args.windows.now c.args.placed.now c.told-windows c.told-placed (length c.loop-place.yielded) c.in-Some.place c.in-Some.window.now c.in-Some.step.now turn.0 turn.1 in
    let one_more : c.in-Some.place + 1 ≡ length (c.loop-place.yielded ++ (c.in-Some.place, (c.in-Some.window, c.in-Some.step)) ∷ []) =
    omega (arith, place, length-append c.loop-place.yielded ((c.in-Some.place, (c.in-Some.window, c.in-Some.step)) ∷ [])) in
    subst (λ n. Leader slacks n c.pick-held.result) one_more
    (c.pick-held.ensures slacks (ap slacks place ∙ sym slack ∙ sym c.slack_of.ensures) (subst (λ n. Leader slacks n c.loop-place.held) (sym place) c.loop-place.invariant))

pub returns : goal.returns
returns c =
    let slacks = slacks_left c.args.windows.now c.args.placed.now in
    let all = YieldsList-end (YieldsList-from_enumerate (YieldsList-from_zip (YieldsList-from_slice c.args.windows.now (cc)) (YieldsList-from_slice c.args.placed.now (cc))) (cc)) c.loop-place.yielded c.loop-place.place-iterator c.loop-place.yielded_by c.next.result c.next.new.self c.in-None.is c.next.ensures.steps in
    subst (λ n. Leader slacks n c.loop-place.held) (all.1 ∙ length_rows c.args.windows.now c.args.placed.now c.told-windows c.told-placed) c.loop-place.invariant
