-- What a call answers and leaves in the caller's buffer. Assumes nothing.
use Rattle.std.specs.Prelude.{◌≡◌, ℕ, ◌<◌, ◌≤◌, List, ◌++◌, length, drop, Some, None, Option}
use Rattle.vessels.specs.Vessels.{Outcome, all, missing, FirstMissing, GivesOut}
use Rattle.vessels.specs.declared.placed.Placed.{Placed}
use Rattle.vessels.specs.declared.refusals.Refusal.{Refusal}
use Rattle.vessels.specs.declared.refusals.Refusal.TheVariants.{TooShort, NoVessel}

-- a step that finds no vessel is refused by 40
abbrev pub reply : Outcome → Option (ℕ × Option ℕ)
reply (all numbers) = None
reply (missing step) = Some (40, Some step)

-- The refusal names the first step that finds no vessel.
abbrev pub IsMissing : (period : ℕ) (stock : List ℕ) (placed : List (Option Placed)) → Refusal → Type 0
IsMissing period stock placed TooShort = ⊥
IsMissing period stock placed (NoVessel step) = FirstMissing period stock placed step

-- The numbers go to the front of the buffer; what lies behind them stays, and a refusal leaves all of it.
abbrev pub left_in : Outcome → List ℕ → List ℕ
left_in (all numbers) old = numbers ++ drop 31 old
left_in (missing step) old = old

-- There is exactly one outcome of giving out vessels, and a call tells that one.
pub record Settled (period : ℕ) (stock : List ℕ) (placed : List (Option Placed)) (old : List ℕ) (answer : Option (ℕ × Option ℕ)) (new : List ℕ) : Type 0 where
  pub outcome : Outcome
  pub by_rule : GivesOut period stock placed outcome
  pub only : (other : Outcome) → GivesOut period stock placed other → other ≡ outcome
  pub answers : answer ≡ reply outcome
  pub leaves : new ≡ left_in outcome old

-- A buffer of fewer than 31 places is refused by 30 and left, before anything else is looked at.
pub record Gave (period : ℕ) (stock : List ℕ) (placed : List (Option Placed)) (old : List ℕ) (answer : Option (ℕ × Option ℕ)) (new : List ℕ) : Type 0 where
  pub if_short : length old < 31 → (answer ≡ Some (30, None)) × (new ≡ old)
  pub if_long : 31 ≤ length old → Settled period stock placed old answer new
