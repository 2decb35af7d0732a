-- Which vessels are held when, brew after brew. Assumes nothing.
use Rattle.std.specs.Prelude.{◌≡◌, ℕ, ◌+◌, ◌*◌, ◌<◌, ◌≤◌, List, Some, Option, slice_index}
use Rattle.vessels.specs.Vessels.{at}
use Rattle.vessels.specs.declared.placed.Placed.{Placed}

-- A vessel is a kind and a number together.
pub record Vessel : Type 0 where
  pub kind : ℕ
  pub number : ℕ

-- The step at a place of the list, counted from 0, holds a vessel in an hour as part of a brew. Brews are counted from
-- 0 and follow each other at the distance of the period: brew k holds the step's vessel from start + k × period for the
-- step's duration.
pub record Holds (period : ℕ) (placed : List (Option Placed)) (numbers : List ℕ) (place brew : ℕ) (vessel : Vessel) (hour : ℕ) : Type 0 where
  pub is_step : place < 31
  pub step : Placed
  pub present : at placed place ≡ Some step
  pub its_kind : step.kind ≡ vessel.kind
  pub its_number : slice_index numbers place ≡ vessel.number
  pub from : step.start + brew * period ≤ hour
  pub before : hour < step.start + brew * period + step.duration

-- No vessel is held twice: whatever holds a vessel in an hour is one step of one brew.
abbrev pub HeldOnce : (period : ℕ) → List (Option Placed) → List ℕ → Type 0
HeldOnce period placed numbers =
    (a j b k : ℕ) (vessel : Vessel) (hour : ℕ)
    → Holds period placed numbers a j vessel hour
    → Holds period placed numbers b k vessel hour
    → (a ≡ b) × (j ≡ k)

-- No step takes longer than the period.
abbrev pub InPeriod : (period : ℕ) → List (Option Placed) → Type 0
InPeriod period placed =
    (place : ℕ) → place < 31 → (step : Placed) → at placed place ≡ Some step → step.duration ≤ period
