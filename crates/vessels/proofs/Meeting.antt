-- When the classes of two steps meet. Assumes nothing.
use Rattle.std.proofs.Common.{◌≡◌, ℕ, ◌+◌, ◌-◌, ◌*◌, ◌/◌, ◌%◌, ◌<◌, ◌≤◌, ◌⊎◌, sym, ap, subst, ◌∙◌, ⊎_elim, add-zero, mod-lt, mod-eq_of_lt, add-mul, add_comm, div-add-mod', arith}
use native.Mathlib.Nat.{add-mod-mod, mod-add-mod, add-mul-mod_self_right, add-mod_right, mod-le}
use Rattle.std.proofs.lemmas.Bool.{cases_lt}
use Rattle.vessels.specs.Sharing.{Shares}
use Rattle.vessels.specs.declared.placed.Placed.{Placed}

-- hours added on both sides do not matter modulo the period
mod_cancel : (period more x y : ℕ) → 0 < period → (more + x) % period ≡ (more + y) % period → x % period ≡ y % period
mod_cancel period more x y some same = sym (back x) ∙ ap (λ r. (rest + r) % period) same ∙ back y
  where
    rest : ℕ
    rest = period - more % period

    whole : (z : ℕ) → rest + (more + z) ≡ z + (more / period + 1) * period
    whole z = omega (arith, div-add-mod' more period, add-mul (more / period) 1 period, mod-lt more some)

    back : (z : ℕ) → (rest + (more + z) % period) % period ≡ z % period
    back z = add-mod-mod rest (more + z) period ∙ ap (λ n. n % period) (whole z) ∙ add-mul-mod_self_right z (more / period + 1) period

-- hours between two classes are hours between the hours' remainders
pub between_classes : (period from to x y hours : ℕ) → x ≡ from % period → y ≡ to % period
    → ((x + hours ≡ y) ⊎ (x + hours ≡ y + period))
    → ((from % period + hours ≡ to % period) ⊎ (from % period + hours ≡ to % period + period))
between_classes period from to x y hours is_x is_y comes =
    subst (λ a. (a + hours ≡ to % period) ⊎ (a + hours ≡ to % period + period)) is_x
    (subst (λ b. (x + hours ≡ b) ⊎ (x + hours ≡ b + period)) is_y comes)

-- After the hours from one class to another, the other comes.
pub comes_up : (period from to hours : ℕ) → 0 < period → ((from % period + hours ≡ to % period) ⊎ (from % period + hours ≡ to % period + period)) → (from + hours) % period ≡ to % period
comes_up period from to hours some comes =
    sym (mod-add-mod from period hours)
    ∙ ⊎_elim
    (λ same. ap (λ n. n % period) same ∙ mod-eq_of_lt (mod-lt to some))
    (λ round. ap (λ n. n % period) round ∙ add-mod_right (to % period) period ∙ mod-eq_of_lt (mod-lt to some))
    comes

-- no fewer hours lead from one class to another than the first that do
pub fewest : (period from to hours : ℕ) → hours < period → (from + hours) % period ≡ to % period → (k : ℕ) → (from + k) % period ≡ to % period → hours ≤ k
fewest period from to hours below first k again =
    let some : 0 < period = omega arith in
    let same : hours % period ≡ k % period = mod_cancel period from hours k some (first ∙ sym again) in
    omega (arith, mod-eq_of_lt below, mod-le k period)

-- the class of the second start comes so many hours after the first
abbrev pub Until : (period : ℕ) → Placed → Placed → ℕ → Type 0
Until period p q hours = (p.start + hours) % period ≡ q.start % period

-- and no sooner
abbrev pub Fewest : (period : ℕ) → Placed → Placed → ℕ → Type 0
Fewest period p q hours = (k : ℕ) → Until period p q k → hours ≤ k

pub shares_turned : (period : ℕ) (a b : Placed) → Shares period a b → Shares period b a
shares_turned period a b s = record { shared = s.shared; is_class = s.is_class; by_one = s.by_other; by_other = s.by_one }

-- the class of the second start comes up while the first step runs
pub shares_from : (period : ℕ) (a b : Placed) (hours : ℕ) → 0 < period → 0 < b.duration → Until period a b hours → hours < a.duration → Shares period a b
shares_from period a b hours some runs comes during = record {
  shared = b.start % period;
  is_class = mod-lt b.start some;
  by_one = (hours, during, comes);
  by_other = (0, runs, ap (λ n. n % period) (add-zero b.start));
}

-- where two steps share a class, and the first has run no shorter than the second there, the second starts while the
-- first runs
meets_in : (period : ℕ) (a b : Placed) (hours k m c : ℕ) → 0 < period → Fewest period a b hours → m ≤ k → (a.start + k) % period ≡ c → (b.start + m) % period ≡ c → hours ≤ k
meets_in period a b hours k m c some few longer one other =
    let early : m + (a.start + (k - m)) ≡ a.start + k = omega arith in
    let starts : (a.start + (k - m)) % period ≡ b.start % period =
    mod_cancel period m (a.start + (k - m)) b.start some
    (ap (λ n. n % period) early ∙ one ∙ sym other ∙ ap (λ n. n % period) (add_comm b.start m)) in
    omega (arith, few (k - m) starts)

-- neither start's class comes up while the other step runs
pub shares_not : (period : ℕ) (a b : Placed) (there back : ℕ) → 0 < period → Fewest period a b there → Fewest period b a back → a.duration ≤ there → b.duration ≤ back → Shares period a b → ⊥
shares_not period a b there back some comes returns long other_long both =
    let one = both.by_one in
    let two = both.by_other in
    ⊎_elim
    (λ less. absurd (omega (arith, one.1, two.1, meets_in period b a back two.0 one.0 both.shared some returns (omega arith) two.2 one.2)))
    (λ more. absurd (omega (arith, one.1, two.1, meets_in period a b there one.0 two.0 both.shared some comes more one.2 two.2)))
    (cases_lt one.0 two.0)
