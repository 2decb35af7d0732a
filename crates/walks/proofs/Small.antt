-- The waits of a sound sheet lie between -2,000 and 2,000. Assumes nothing.
use Rattle.std.proofs.Common.{◌≡◌, ℕ, zero, suc, false, ℤ, pos, neg_ℤ, ◌≤ℤ◌, is_some, Some, None, Option, unwrap_or, refl, ◌∙◌, ⊎_elim, arith}
use mathlib.Core.HLevel.{×_prop}
use mathlib.Core.Logic.{∥∥₁_elim}
use Rattle.std.proofs.lemmas.Int.{ints}
use Rattle.std.proofs.lemmas.Bool.{cases_Bool, true≢false}
use Rattle.sheet.specs.Sheets.{RuleSheet, has_step}
use Rattle.sheet.specs.Limits.{Sound}
use Rattle.sheet.specs.Timetables.{Timetable, start, Lawful}
use Rattle.sheet.specs.Waits.{IsWait}
use Rattle.walks.proofs.Orders.{le_prop}

none_value : (o : Option ℤ) → is_some o ≡ false → unwrap_or o (pos 0) ≡ pos 0
none_value None e = refl
none_value (Some x) e = absurd (true≢false e)

-- every start of a lawful timetable lies between hour zero and the span
pub start_within : (s : RuleSheet) (t : Timetable) → Lawful s t → (n : ℕ) → (pos 0 ≤ℤ start t n) × (start t n ≤ℤ pos s.span)
start_within s t k zero = (omega (arith, ints), omega (arith, ints))
start_within s t k (suc n) =
    ⊎_elim
    (λ there.
    let low = k.from_zero (suc n) there in
    let high = k.in_span (suc n) there in
    (low, omega (arith, ints)))
    (λ absent.
    let e = none_value (t (suc n)) (k.covers (suc n) ∙ absent) in
    (omega (arith, ints), omega (arith, ints)))
    (cases_Bool (has_step s (suc n)))

pub wait_small : (s : RuleSheet) → Sound s → (i j : ℕ) (wait : ℤ) → IsWait s i j wait
    → (neg_ℤ (pos 2000) ≤ℤ wait) × (wait ≤ℤ pos 2000)
wait_small s ok i j wait w =
    ∥∥₁_elim w.attained (×_prop (le_prop _ _) (le_prop _ _))
    (λ way.
    let span = ok.span.1 in
    let first = start_within s way.0 way.1 i in
    let last = start_within s way.0 way.1 j in
    let e = way.2 in
    (omega (arith, ints), omega (arith, ints)))
