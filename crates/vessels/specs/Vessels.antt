-- Which vessel each step gets. Assumes nothing.
use Rattle.std.specs.Prelude.{◌≡◌, ℕ, ◌+◌, ◌<◌, ◌≤◌, List, length, Some, None, Option, slice_index, slice_index_or}
use Rattle.vessels.specs.Sharing.{Shares}
use Rattle.vessels.specs.declared.placed.Placed.{Placed}

-- The step at a place of the list, counted from 0, or none where it is absent: step 1 stands at place 0. The list has 31
-- places, and past its end there are no steps.
abbrev pub at : List (Option Placed) → ℕ → Option Placed
at placed place = slice_index_or placed place None

-- A step with a vessel keeps that vessel from another step: they are of the same kind and share a class.
pub record Keeps (period : ℕ) (lower : Placed) (number : ℕ) (other : Placed) (vessel : ℕ) : Type 0 where
  pub has : number ≡ vessel
  pub same_kind : lower.kind ≡ other.kind
  pub shares : Shares period lower other

-- a step with a number below that of the step at a place keeps the vessel from it
pub record Taken (period : ℕ) (placed : List (Option Placed)) (numbers : List ℕ) (place : ℕ) (step : Placed) (vessel : ℕ) : Type 0 where
  pub by : ℕ
  pub lower : by < place
  pub holder : Placed
  pub present : at placed by ≡ Some holder
  pub keeps : Keeps period holder (slice_index numbers by) step vessel

-- the smallest vessel number, from 1 to the stock, that is not taken
pub record Gets (period stock : ℕ) (placed : List (Option Placed)) (numbers : List ℕ) (place : ℕ) (step : Placed) (vessel : ℕ) : Type 0 where
  pub from_one : 1 ≤ vessel
  pub in_stock : vessel ≤ stock
  pub free : Taken period placed numbers place step vessel → ⊥
  pub smallest : (smaller : ℕ) → 1 ≤ smaller → smaller < vessel → Taken period placed numbers place step smaller

-- every vessel number from 1 to the stock is taken
abbrev pub NoneLeft : (period stock : ℕ) (placed : List (Option Placed)) (numbers : List ℕ) (place : ℕ) (step : Placed) → Type 0
NoneLeft period stock placed numbers place step =
    (vessel : ℕ) → 1 ≤ vessel → vessel ≤ stock → Taken period placed numbers place step vessel

-- How many vessels there are for a step. The stock has a count for each kind; a kind without a count has no vessels.
abbrev pub stock_for : List ℕ → Placed → ℕ
stock_for stock step = slice_index stock step.kind

-- the number due to the step at a place: 0 if it is absent
pub record Due (period : ℕ) (stock : List ℕ) (placed : List (Option Placed)) (numbers : List ℕ) (place vessel : ℕ) : Type 0 where
  pub if_absent : at placed place ≡ None → vessel ≡ 0
  pub if_present : (step : Placed) → at placed place ≡ Some step → Gets period (stock_for stock step) placed numbers place step vessel

-- the step at a place has the number due to it
abbrev pub Numbered : (period : ℕ) (stock : List ℕ) (placed : List (Option Placed)) (numbers : List ℕ) (place : ℕ) → Type 0
Numbered period stock placed numbers place = Due period stock placed numbers place (slice_index numbers place)

-- the step at a place is present, and every vessel of its kind is taken
pub record Without (period : ℕ) (stock : List ℕ) (placed : List (Option Placed)) (numbers : List ℕ) (place : ℕ) : Type 0 where
  pub step : Placed
  pub present : at placed place ≡ Some step
  pub none : NoneLeft period (stock_for stock step) placed numbers place step

-- What comes of giving out vessels by rising step number: a number for each step, or the first step that finds none.
pub data Outcome : Type 0 where
  all : (numbers : List ℕ) → Outcome
  missing : (step : ℕ) → Outcome

-- each of the 31 steps has the number due to it
pub record AllNumbered (period : ℕ) (stock : List ℕ) (placed : List (Option Placed)) (numbers : List ℕ) : Type 0 where
  pub long : length numbers ≡ 31
  pub each : (i : ℕ) → i < 31 → Numbered period stock placed numbers i

-- The step is without a vessel once all lower-numbered steps have the numbers due to them.
pub record FirstMissing (period : ℕ) (stock : List ℕ) (placed : List (Option Placed)) (step : ℕ) : Type 0 where
  pub place : ℕ
  pub is_step : place < 31
  pub is_at : step ≡ place + 1
  pub numbers : List ℕ
  pub lower : (i : ℕ) → i < place → Numbered period stock placed numbers i
  pub without : Without period stock placed numbers place

-- what comes of giving out vessels to these steps from this stock
abbrev pub GivesOut : (period : ℕ) (stock : List ℕ) (placed : List (Option Placed)) → Outcome → Type 0
GivesOut period stock placed (all numbers) = AllNumbered period stock placed numbers
GivesOut period stock placed (missing step) = FirstMissing period stock placed step
