-- The least crowded hour. Assumes nothing.
use Rattle.std.specs.Prelude.{◌≡◌, ℕ, zero, suc, ◌+◌, ◌-◌, ◌<◌, ◌≤◌, max, nat_lt, if◌then◌else◌}
use Rattle.choose.specs.Classes.{peak}
use Rattle.choose.specs.Views.{View}

-- Among the hours from one up to another, that one not included, an hour has the smallest peak, and is the earliest
-- of those that have it.
pub record Calmest (peaks : ℕ → ℕ) (from until hour : ℕ) : Type 0 where
  pub not_before : from ≤ hour
  pub not_after : hour < until
  pub smallest : (h : ℕ) → from ≤ h → h < until → peaks hour ≤ peaks h
  pub earliest : (h : ℕ) → from ≤ h → h < hour → peaks hour < peaks h

-- The peak of each hour, for the step shown.
abbrev pub peak_in : View → ℕ → ℕ
peak_in v hour = peak v.crowd v.duration hour

-- An hour is the calmest of the window. A window whose last hour lies before its first has the first alone.
abbrev pub IsLeastCrowded : View → ℕ → Type 0
IsLeastCrowded v hour = Calmest (peak_in v) v.first (max v.first v.last + 1) hour

-- what is said of hours holds of this one and of no other
pub record Exactly (says : ℕ → Type 0) (hour : ℕ) : Type 0 where
  pub holds : says hour
  pub only : (h : ℕ) → says h → h ≡ hour

-- of two hours the second only if its peak is smaller
abbrev pub calmer : (ℕ → ℕ) → ℕ → ℕ → ℕ
calmer peaks held hour = if nat_lt (peaks hour) (peaks held) then hour else held

-- the calmest of an hour and so many that follow it
unfoldable pub calmest : (ℕ → ℕ) → ℕ → ℕ → ℕ
calmest peaks from zero = from
calmest peaks from (suc n) = calmer peaks (calmest peaks from n) (from + suc n)

-- the hour that least crowded names
abbrev pub least_crowded_hour : View → ℕ
least_crowded_hour v = calmest (peak_in v) v.first (v.last - v.first)
