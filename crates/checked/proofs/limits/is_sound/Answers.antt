use Rattle.std.proofs.Common.{sym, ◌∙◌, arith}
use Rattle.std.proofs.lemmas.Bool.{false≢true}
use Rattle.checked.proofs.Fits.{full_sound, steps_kept, rules_kept, counts_told, counts_kept}
use Rattle.checked.proofs.limits.is_sound.Goals as goal

pub returns-then-not-steps_fit : goal.returns-then-not-steps_fit
returns-then-not-steps_fit c = (
  λ e. absurd (false≢true e),
  λ ok. sym c.if-not-steps_fit.true ∙ c.steps_fit.ensures.fits.1 (steps_kept c.args.sheet.now ok),
)

pub returns-then-not-rules_fit : goal.returns-then-not-rules_fit
returns-then-not-rules_fit c = (
  λ e. absurd (false≢true e),
  λ ok. sym c.if-not-rules_fit.true ∙ c.rules_fit.ensures.fits.1 (rules_kept c.args.sheet.now ok),
)

pub returns : goal.returns
returns c = (
  λ e.
      ∣ full_sound c.args.sheet.now (omega arith, omega arith) (omega arith, omega arith)
      c.steps_fit.ensures.long (c.steps_fit.ensures.fits.0 c.if-not-steps_fit.false)
      c.rules_fit.ensures.long (c.rules_fit.ensures.fits.0 c.if-not-rules_fit.false)
      c.counts_fit.ensures.long (counts_told c.args.sheet.now c.counts_fit.ensures.long (c.counts_fit.ensures.fits.0 e)) ∣₁,
  λ ok. c.counts_fit.ensures.fits.1 (counts_kept c.args.sheet.now ok),
)
