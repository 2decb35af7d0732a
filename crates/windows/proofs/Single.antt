-- At most one earliest hour, one latest hour, one slack and one next step. Assumes nothing.
use Rattle.std.proofs.Common.{◌≡◌, ℕ, ◌<◌, ℤ, ◌≤ℤ◌, subst, ⊎_elim, arith}
use mathlib.Core.Logic.{∥∥₁_elim}
use Rattle.std.proofs.lemmas.Int.{ints}
use Rattle.std.proofs.lemmas.Bool.{cases_order}
use Rattle.sheet.specs.Sheets.{RuleSheet}
use Rattle.sheet.specs.Timetables.{Timetable}
use Rattle.walks.proofs.Orders.{le_prop}
use Rattle.windows.specs.Windows.{IsFirst, IsLast, IsSlack, IsNext}

first_low : (s : RuleSheet) (placed : Timetable) (n : ℕ) (a b : ℤ) → IsFirst s placed n a → IsFirst s placed n b → a ≤ℤ b
first_low s placed n a b p q =
    ∥∥₁_elim q.attained (le_prop a b) (λ way. subst (λ (w : ℤ). a ≤ℤ w) way.3 (p.least way.0 way.1 way.2))

last_low : (s : RuleSheet) (placed : Timetable) (n : ℕ) (a b : ℤ) → IsLast s placed n a → IsLast s placed n b → a ≤ℤ b
last_low s placed n a b p q =
    ∥∥₁_elim p.attained (le_prop a b) (λ way. subst (λ (w : ℤ). w ≤ℤ b) way.3 (q.greatest way.0 way.1 way.2))

pub first_unique : (s : RuleSheet) (placed : Timetable) (n : ℕ) (a b : ℤ) → IsFirst s placed n a → IsFirst s placed n b → a ≡ b
first_unique s placed n a b p q =
    let low = first_low s placed n a b p q in
    let high = first_low s placed n b a q p in
    omega (arith, ints)

pub last_unique : (s : RuleSheet) (placed : Timetable) (n : ℕ) (a b : ℤ) → IsLast s placed n a → IsLast s placed n b → a ≡ b
last_unique s placed n a b p q =
    let low = last_low s placed n a b p q in
    let high = last_low s placed n b a q p in
    omega (arith, ints)

pub slack_unique : (s : RuleSheet) (placed : Timetable) (n : ℕ) (a b : ℤ) → IsSlack s placed n a → IsSlack s placed n b → a ≡ b
slack_unique s placed n a b p q =
    let firsts = first_unique s placed n p.first q.first p.window.from q.window.from in
    let lasts = last_unique s placed n p.last q.last p.window.to q.window.to in
    let one = p.between in
    let other = q.between in
    omega (arith, ints)

-- a smaller number cannot be next beside a larger one
no_smaller : (s : RuleSheet) (placed : Timetable) (m n : ℕ) → IsNext s placed m → IsNext s placed n → m < n → ⊥
no_smaller s placed m n p q less =
    let more = q.smallest m less p.waiting p.slack p.is_slack in
    let fewer = p.fewest n q.waiting q.slack q.is_slack in
    omega (arith, ints)

pub next_unique : (s : RuleSheet) (placed : Timetable) (m n : ℕ) → IsNext s placed m → IsNext s placed n → m ≡ n
next_unique s placed m n p q =
    ⊎_elim
    (λ same. same)
    (⊎_elim (λ less. absurd (no_smaller s placed m n p q less)) (λ more. absurd (no_smaller s placed n m q p more)))
    (cases_order m n)
