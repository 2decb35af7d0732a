use Rattle.std.proofs.Common.{◌∙◌, arith}
use Rattle.choose.proofs.Calm.{calmest_one, calmest_stays, calmest_moves}
use Rattle.choose.proofs.Rounds.{peak_class, passed_over, lower_peak}
use Rattle.choose.proofs.least_crowded.calmest.Goals as goal

pub loop-least-init : goal.loop-least-init
loop-least-init c = (calmest_one c.args.first, c.requires.hours, c.peak_from-least.ensures ∙ peak_class c.args.crowd.now c.args.duration c.args.first, omega arith)

pub loop-least-preserved-in-Some : goal.loop-least-preserved-in-Some
loop-least-preserved-in-Some c =
    let found = c.in-Some.ensures in
    let inv = c.loop-least.invariant in
    let passed = passed_over c.args.crowd.now c.args.duration c.loop-least.hour c.in-Some.k c.loop-least.least found.0 found.1 in
    (calmest_stays _ inv.0 (omega arith) (λ h low high. omega (arith, inv.2, passed h low high)), inv.1, inv.2, omega (arith, c.requires.short, c.requires.end, found.0))

pub nonzero_rem-hour-in-None : goal.nonzero_rem-hour-in-None
nonzero_rem-hour-in-None c = omega (arith, c.requires.classes)

pub loop-least-preserved : goal.loop-least-preserved
loop-least-preserved c =
    let inv = c.loop-least.invariant in
    let lower = lower_peak c.args.crowd.now c.args.duration c.loop-least.hour c.loop-least.least (omega (arith, c.loop-least-test.true)) c.in-None.ensures in (
      calmest_moves inv.0 (omega (arith, inv.2, lower)),
      c.if-hour-end.true,
      c.peak_from-least-in-None.ensures ∙ peak_class c.args.crowd.now c.args.duration c.loop-least.hour,
      omega (arith, c.requires.end, c.if-hour-end.true),
    )
