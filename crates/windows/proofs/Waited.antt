-- How waits and links lie to each other: the wait chart alone tells what the links ask for. Assumes nothing.
use Rattle.std.proofs.Common.{◌≡◌, ℕ, zero, suc, ◌<◌, List, ℤ, pos, ◌+ℤ◌, ◌≤ℤ◌, is_some, None, sym, ◌∙◌, ⊎_elim, arith}
use mathlib.Core.Logic.{∥∥₁_elim}
use Rattle.std.proofs.lemmas.List.{get_or_past}
use Rattle.std.proofs.lemmas.Int.{ints}
use Rattle.std.proofs.lemmas.Bool.{cases_lt, and_from, false≢true}
use Rattle.sheet.specs.declared.forms.Link.{Link}
use Rattle.sheet.specs.Limits.{Sound}
use Rattle.sheet.specs.Links.{IsLink, weight}
use Rattle.sheet.specs.Sheets.{RuleSheet, Present}
use Rattle.sheet.specs.Waits.{IsWait, IsChart}
use Rattle.walks.proofs.LinkLaws.{links_hold}
use Rattle.walks.proofs.Orders.{le_prop}
use Rattle.windows.specs.Windows.{entry}

-- what is present has a number below 32
pub present_below : (s : RuleSheet) → Sound s → (n : ℕ) → Present s n → n < 32
present_below s ok zero there = omega arith
present_below s ok (suc n) there =
    ⊎_elim
    (λ less. omega arith)
    (λ more.
    let size = ok.step_count in
    let none = get_or_past s.steps n None (omega arith) in
    absurd (false≢true (sym (λ i. is_some (none i)) ∙ there)))
    (cases_lt n 31)

pub entry_wait : (s : RuleSheet) → Sound s → (chart : List ℤ) → IsChart s chart → (i j : ℕ) → Present s i → Present s j → IsWait s i j (entry chart i j)
entry_wait s ok chart is i j here there =
    (is.entries i j (present_below s ok i here) (present_below s ok j there)).there (and_from _ _ here there)

-- a link onward asks for no more than the wait to its end, and a link before it for no more than the wait from its beginning
pub wait_link : (s : RuleSheet) (x : ℕ) (l : Link) (a b : ℤ) → IsLink s l → IsWait s x l.from a → IsWait s x l.to b → (a +ℤ weight s.period l) ≤ℤ b
wait_link s x l a b link near far =
    ∥∥₁_elim far.attained (le_prop _ _)
    (λ way.
    let low = near.least way.0 way.1 in
    let kept = links_hold s way.0 way.1 l link in
    let is = way.2 in
    omega (arith, ints))

pub link_wait : (s : RuleSheet) (x : ℕ) (l : Link) (a b : ℤ) → IsLink s l → IsWait s l.from x a → IsWait s l.to x b → (b +ℤ weight s.period l) ≤ℤ a
link_wait s x l a b link far near =
    ∥∥₁_elim far.attained (le_prop _ _)
    (λ way.
    let low = near.least way.0 way.1 in
    let kept = links_hold s way.0 way.1 l link in
    let is = way.2 in
    omega (arith, ints))

-- no wait from a place to itself
pub no_wait_here : (s : RuleSheet) (x : ℕ) (a : ℤ) → IsWait s x x a → a ≡ pos 0
no_wait_here s x a w =
    let low : pos 0 ≤ℤ a = ∥∥₁_elim w.attained (le_prop _ _) (λ way. let is = way.2 in omega (arith, ints)) in
    let high : a ≤ℤ pos 0 = ∥∥₁_elim w.attained (le_prop _ _) (λ way. let is = way.2 in omega (arith, ints)) in
    omega (arith, ints)
