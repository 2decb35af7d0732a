-- At most one wait, one chart and one bound. Assumes nothing.
use Rattle.std.proofs.Common.{◌≡◌, ℕ, ◌+◌, ◌-◌, ◌*◌, ◌/◌, ◌%◌, ◌<◌, ◌≤◌, ◌&&◌, List, length, get_or, ℤ, pos, ◌≤ℤ◌, sym, ◌∙◌, subst, ⊎_elim, mul-le-mul_right, arith}
use mathlib.Core.Logic.{∥∥₁_elim}
use native.Mathlib.Bridge.{le_prop as nat_le_prop}
use Rattle.std.proofs.lemmas.List.{ext_get_or}
use Rattle.std.proofs.lemmas.Int.{ints}
use Rattle.std.proofs.lemmas.Bool.{cases_Bool, cases_lt}
use Rattle.sheet.specs.Sheets.{RuleSheet, present}
use Rattle.sheet.specs.Links.{run_carries}
use Rattle.sheet.specs.Waits.{IsWait, IsEntry, IsChart, IsBound}
use Rattle.walks.proofs.Orders.{le_prop}

-- no wait is above another
wait_low : (s : RuleSheet) (i j : ℕ) (a b : ℤ) → IsWait s i j a → IsWait s i j b → a ≤ℤ b
wait_low s i j a b p q =
    ∥∥₁_elim q.attained (le_prop a b) (λ way. subst (λ (w : ℤ). a ≤ℤ w) way.2 (p.least way.0 way.1))

pub wait_unique : (s : RuleSheet) (i j : ℕ) (a b : ℤ) → IsWait s i j a → IsWait s i j b → a ≡ b
wait_unique s i j a b p q =
    let low = wait_low s i j a b p q in
    let high = wait_low s i j b a q p in
    omega (arith, ints)

pub entry_unique : (s : RuleSheet) (i j : ℕ) (a b : ℤ) → IsEntry s i j a → IsEntry s i j b → a ≡ b
entry_unique s i j a b p q =
    ⊎_elim (λ there. wait_unique s i j a b (p.there there) (q.there there)) (λ out. p.absent out ∙ sym (q.absent out))
    (cases_Bool (present s i && present s j))

pub chart_unique : (s : RuleSheet) (a b : List ℤ) → IsChart s a → IsChart s b → a ≡ b
chart_unique s a b p q = ext_get_or (pos 0) a b (p.size ∙ sym q.size) same
  where
    same : (k : ℕ) → k < length a → get_or a k (pos 0) ≡ get_or b k (pos 0)
    same k h =
        let size = p.size in
        let i = k / 32 in
        let j = k % 32 in
        let row : i < 32 = omega arith in
        let column : j < 32 = omega arith in
        let place : 32 * i + j ≡ k = omega arith in
        subst (λ (x : ℕ). get_or a x (pos 0) ≡ get_or b x (pos 0)) place
        (entry_unique s i j _ _ (p.entries i j row column) (q.entries i j row column))

bound_low : (s : RuleSheet) (a b : ℕ) → IsBound s a → IsBound s b → a ≤ b
bound_low s a b p q =
    ∥∥₁_elim p.tight nat_le_prop
    (⊎_elim (λ one. let low = q.low in omega arith)
    (λ way.
    let enough = q.enough way.0 way.1 way.2 in
    let short = way.3 in
    let c = run_carries way.0 in
    ⊎_elim
    (λ (less : b < a). let more : b * c ≤ (a - 1) * c = mul-le-mul_right c (omega arith) in absurd (omega (arith, ints)))
    (λ fits. fits)
    (cases_lt b a)))

pub bound_unique : (s : RuleSheet) (a b : ℕ) → IsBound s a → IsBound s b → a ≡ b
bound_unique s a b p q =
    let low = bound_low s a b p q in
    let high = bound_low s b a q p in
    omega arith
