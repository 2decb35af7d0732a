-- How many placed steps of a kind cover each class. Assumes nothing.
use Rattle.std.specs.Prelude.{ℕ, zero, suc, ◌+◌, Bool, false, ◌&&◌, ◌||◌, List, map, count_by, ◌==◌, Some, None, Option}
use Rattle.std.specs.List.{range_with_len}
use Rattle.choose.specs.Classes.{class}
use Rattle.vessels.specs.declared.placed.Placed.{Placed}

-- Whether a step covers a class: it is the class of start + k for some k from 0 to duration - 1.
abbrev pub covers : (period start duration : ℕ) → ℕ → Bool
covers period start zero c = false
covers period start (suc k) c = class period (start + k) == c || covers period start k c

-- Whether a step counts for a class of a kind: it is placed, it is of that kind, and it covers the class.
abbrev pub counts : (period kind c : ℕ) → Option Placed → Bool
counts period kind c None = false
counts period kind c (Some step) = step.kind == kind && covers period step.start step.duration c

-- The crowd of a class, for a kind: how many placed steps of that kind cover it.
abbrev pub crowd : (period kind : ℕ) → List (Option Placed) → ℕ → ℕ
crowd period kind placed c = count_by (counts period kind c) placed

-- The crowds of all classes, of which there are as many as the period has hours.
abbrev pub crowds : (period kind : ℕ) → List (Option Placed) → List ℕ
crowds period kind placed = map (crowd period kind placed) (range_with_len 0 period)
