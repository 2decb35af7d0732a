-- Hours that count modulo the period, and how crowded they are. Assumes nothing.
use Rattle.std.specs.Prelude.{◌≡◌, ℕ, zero, suc, ◌+◌, ◌%◌, ◌<◌, max, List, length, slice_index}

-- The class of an hour. Brews follow each other at the distance of the period, so hours that lie whole periods apart
-- are alike: they are of one class.
abbrev pub class : ℕ → ℕ → ℕ
class period hour = hour % period

-- a step covers the class of each hour from its start on, for as many hours as it takes
abbrev pub Covers : (period start duration : ℕ) → ℕ → Type 0
Covers period start duration c = (k : ℕ) × (k < duration) × (class period (start + k) ≡ c)

-- The count of an hour's class, where a list has a count for each class and is as long as the period. Where no class is
-- shown the count is 0.
abbrev pub crowd_at : List ℕ → ℕ → ℕ
crowd_at crowd hour = slice_index crowd (class (length crowd) hour)

-- The peak of an hour: the largest count among the classes that a step of that duration covers if it starts then.
abbrev pub peak : (crowd : List ℕ) (duration hour : ℕ) → ℕ
peak crowd zero hour = 0
peak crowd (suc n) hour = max (peak crowd n hour) (crowd_at crowd (hour + n))
