-- How many hours a link of a sound sheet can weigh. Assumes nothing.
use Rattle.std.specs.Prelude.{ℕ, ◌*◌, ◌≤◌, ℤ, pos, neg_ℤ, ◌≤ℤ◌, Some, None, Option}
use Rattle.std.proofs.Common.{subst, mul-le-mul, arith}
use Rattle.std.proofs.lemmas.Int.{ints}
use Rattle.sheet.specs.declared.forms.Link.{Link}
use Rattle.sheet.specs.Sheets.{RuleSheet, HasStep, hours_of, duration}
use Rattle.sheet.specs.Limits.{StepFits, RuleFits, Sound}
use Rattle.sheet.specs.Links.{IsLink, after, within, at, at_back, floor, ceiling, turn, weight}

-- Hours that n links may weigh: each at most 16,384, up or down.
abbrev pub HoursWithin : ℕ → ℤ → Type 0
HoursWithin n x = (neg_ℤ (pos (n * 16384)) ≤ℤ x) × (x ≤ℤ pos (n * 16384))

hours_low : (o : Option (ℕ × ℕ)) → StepFits o → hours_of o ≤ 999
hours_low None fits = omega arith
hours_low (Some told) fits = fits.0.1

duration_low : (s : RuleSheet) → Sound s → (n : ℕ) → duration s n ≤ 999
duration_low s ok n = hours_low _ (ok.steps n)

pub weight_within : (s : RuleSheet) → Sound s → (l : Link) → IsLink s l → HoursWithin 1 (weight s.period l)
weight_within s ok l (after r u v gap carry e) =
    let fits = subst (RuleFits (HasStep s)) e (ok.rules r) in
    let gap_low : gap ≤ 999 = fits.2 in
    let low = duration_low s ok u in
    let carried : carry * s.period ≤ 7 * 999 = mul-le-mul fits.3 ok.period.1 in
    (omega (arith, ints), omega (arith, ints))
weight_within s ok l (within r u v hours e) =
    let fits = subst (RuleFits (HasStep s)) e (ok.rules r) in
    let low : hours ≤ 999 = fits.2 in
    (omega (arith, ints), omega (arith, ints))
weight_within s ok l (at r v hour e) =
    let fits = subst (RuleFits (HasStep s)) e (ok.rules r) in
    let low : hour ≤ 1999 = fits.1 in
    (omega (arith, ints), omega (arith, ints))
weight_within s ok l (at_back r v hour e) =
    let fits = subst (RuleFits (HasStep s)) e (ok.rules r) in
    let low : hour ≤ 1999 = fits.1 in
    (omega (arith, ints), omega (arith, ints))
weight_within s ok l (floor v there) = (omega (arith, ints), omega (arith, ints))
weight_within s ok l (ceiling v there) =
    let low = duration_low s ok v in
    let span = ok.span.1 in
    (omega (arith, ints), omega (arith, ints))
weight_within s ok l (turn v there) =
    let low = duration_low s ok v in
    let period = ok.period.1 in
    (omega (arith, ints), omega (arith, ints))
