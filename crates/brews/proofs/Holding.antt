-- Two holdings of one vessel in one hour are the same. Assumes nothing.
use Rattle.std.proofs.Common.{◌≡◌, ℕ, ◌+◌, ◌-◌, ◌*◌, ◌%◌, ◌<◌, ◌≤◌, List, Option, sym, ap, ◌∙◌, subst, ⊎_elim, mul-le-mul_right, mod-lt, add-mul, arith}
use native.Mathlib.Nat.{add-mul-mod_self_right}
use Rattle.std.proofs.lemmas.Bool.{cases_order}
use Rattle.std.proofs.lemmas.Option.{same_Some}
use Rattle.brews.specs.Brews.{Vessel, Holds, HeldOnce, InPeriod}
use Rattle.choose.specs.Classes.{Covers}
use Rattle.vessels.specs.Vessels.{AllNumbered}
use Rattle.vessels.specs.declared.placed.Placed.{Placed}

module _ {period : ℕ} {placed : List (Option Placed)} {numbers : List ℕ} where
  -- the class of the hour is covered by the step
  covered : {place brew : ℕ} {vessel : Vessel} {hour : ℕ} (holds : Holds period placed numbers place brew vessel hour) → Covers period holds.step.start holds.step.duration (hour % period)
  covered {place} {brew} {vessel} {hour} holds =
      let since = holds.from in
      let until = holds.before in
      let step = holds.step in
      let hours = hour - (step.start + brew * period) in
      let whole : step.start + hours + brew * period ≡ hour = omega arith in
      (hours, omega arith, sym (add-mul-mod_self_right (step.start + hours) brew period) ∙ ap (λ n. n % period) whole)

  -- a step cannot hold a vessel that a lower-numbered step holds
  no_lower : {stock : List ℕ} → 0 < period → AllNumbered period stock placed numbers → {a j b k : ℕ} {vessel : Vessel} {hour : ℕ} → Holds period placed numbers a j vessel hour → Holds period placed numbers b k vessel hour → a < b → ⊥
  no_lower some all {a} {j} {b} {k} {vessel} {hour} one other less =
      ((all.each b other.is_step).if_present other.step other.present).free (record {
        by = a;
        lower = less;
        holder = one.step;
        present = one.present;
        keeps = record {
          has = one.its_number ∙ sym other.its_number;
          same_kind = one.its_kind ∙ sym other.its_kind;
          shares = record { shared = hour % period; is_class = mod-lt hour some; by_one = covered one; by_other = covered other };
        };
      })

  -- a step has left its vessel when a later brew wants it
  no_later : {a j k : ℕ} {vessel : Vessel} {hour : ℕ} → (one : Holds period placed numbers a j vessel hour) (other : Holds period placed numbers a k vessel hour) → one.step.duration ≤ period → j < k → ⊥
  no_later {a} {j} {k} one other short less =
      let same : one.step ≡ other.step = same_Some one.step other.step (sym one.present ∙ other.present) in
      let starts : one.step.start ≡ other.step.start = ap (λ (step : Placed). step.start) same in
      let until = one.before in
      let since = other.from in
      let next : j + 1 ≤ k = omega arith in
      let apart : (j + 1) * period ≤ k * period = mul-le-mul_right period next in
      let one_more : (j + 1) * period ≡ j * period + 1 * period = add-mul j 1 period in
      omega arith

pub held_once : (period : ℕ) (stock : List ℕ) (placed : List (Option Placed)) (numbers : List ℕ) → InPeriod period placed → AllNumbered period stock placed numbers → HeldOnce period placed numbers
held_once period stock placed numbers short all a j b k vessel hour one other =
    let fits = short a one.is_step one.step one.present in
    let since = one.from in
    let until = one.before in
    let some : 0 < period = omega arith in
    let same : a ≡ b =
    ⊎_elim
    (λ equal. equal)
    (⊎_elim (λ less. absurd (no_lower some all one other less)) (λ more. absurd (no_lower some all other one more)))
    (cases_order a b) in
    let here = subst (λ place. Holds period placed numbers place k vessel hour) (sym same) other in (
      same,
      ⊎_elim
          (λ equal. equal)
          (⊎_elim
          (λ less. absurd (no_later one here fits less))
          (λ more. absurd (no_later here one (short a here.is_step here.step here.present) more)))
          (cases_order j k),
    )
