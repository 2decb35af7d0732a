-- One link of the walk along a loop. Assumes nothing.
use Rattle.std.specs.Prelude.{◌≡◌, ℕ, ◌<◌, ◌≤◌, ◌⊎◌, List, length, Some, None, Option}
use Rattle.chart.specs.Cells.{at}
use Rattle.chart.specs.Positions.{place, position, IsPlaces}
use Rattle.chart.specs.Runs.{Worked}
use Rattle.chart.specs.declared.places.Places.{Places}
use Rattle.kinds.specs.Together.{no_link, counted_sum, RanksUnder, CountedWithin, one_link}
use Rattle.kinds.specs.declared.together.Counted.{Counted}
use Rattle.sheet.specs.Links.{IsLink}
use Rattle.sheet.specs.Sheets.{RuleSheet}
use Rattle.sheet.specs.declared.forms.Link.{Link}

-- The chart stopped at position k: the positions below it are processed, and its entry to itself beats no link.
pub record Stopped (s : RuleSheet) (p : Places) (k : ℕ) (xs : List Counted) : Type 0 where
  pub room : 1024 ≤ length xs
  pub places : IsPlaces s p
  pub inside : k < p.count
  pub chart : Worked no_link counted_sum one_link RanksUnder CountedWithin s p k xs
  pub beats : RanksUnder (at no_link xs k k) no_link → ⊥

-- The link leads to position k and is the whole of the entry from position a.
abbrev pub WholeWay : ℕ → Places → ℕ → ℕ → List Counted → Link → Type 0
WholeWay period p k a xs l = (l.to ≡ place p k) × (one_link period l ≡ at no_link xs a k)

-- The link leads to a processed position, and with the entry from there makes up the entry from position a.
abbrev pub PartWay : ℕ → Places → ℕ → ℕ → List Counted → Link → Type 0
PartWay period p k a xs l =
    (position p l.to < k) × (counted_sum (one_link period l) (at no_link xs (position p l.to) k) ≡ at no_link xs a k)

-- The link begins at position a and accounts for the entry from there to position k.
abbrev pub Accounts : ℕ → Places → ℕ → ℕ → List Counted → Link → Type 0
Accounts period p k a xs l =
    (l.from ≡ place p a) × (WholeWay period p k a xs l ⊎ PartWay period p k a xs l)

-- A link of the sheet that accounts for an entry, or that there is none with a code, or with a code below a number.
abbrev pub FoundAt : RuleSheet → Places → ℕ → ℕ → List Counted → ℕ → Option Link → Type 0
FoundAt s p k a xs code None =
    (l : Link) → IsLink s l → l.code ≡ code → Accounts s.period p k a xs l → ⊥
FoundAt s p k a xs code (Some l) = IsLink s l × Accounts s.period p k a xs l

abbrev pub FoundBelow : RuleSheet → Places → ℕ → ℕ → List Counted → ℕ → Option Link → Type 0
FoundBelow s p k a xs code None =
    (l : Link) → IsLink s l → l.code < code → Accounts s.period p k a xs l → ⊥
FoundBelow s p k a xs code (Some l) = IsLink s l × Accounts s.period p k a xs l
