-- Entries that are made of runs of links. Assumes nothing.
use Rattle.std.specs.Prelude.{◌≡◌, ℕ, ◌^◌, ◌<◌, ◌≤◌, max, ◌⊎◌, List, [], ◌∷◌, length, take, drop, Ok, Err, Result}
use Rattle.sheet.specs.declared.forms.Link.{Link}
use Rattle.sheet.specs.Sheets.{RuleSheet}
use Rattle.sheet.specs.Links.{IsLink, Run}
use Rattle.chart.specs.declared.places.Places.{Places}
use Rattle.chart.specs.declared.places.Stop.{Stop}
use Rattle.chart.specs.declared.places.Stop.TheVariants.{Short, Beaten}
use Rattle.chart.specs.Cells.{at}
use Rattle.chart.specs.Positions.{place, position, IsPlaces}

-- The number of a refusal: 30 for a buffer that is too short, 14 for a closed run that beats the neutral entry.
abbrev pub stop_number : Stop → ℕ
stop_number Short = 30
stop_number (Beaten places at) = 14

-- The inner places of a run, where one link ends and the next begins, all have a property.
abbrev pub Through : (ℕ → Type 0) → List Link → Type 0
Through P [] = Unit {0}
Through P (l ∷ []) = Unit {0}
Through P (l ∷ m ∷ ls) = P l.to × Through P (m ∷ ls)

-- A place at a processed position: one below k. Position 0, hour zero, counts as processed from the start.
abbrev pub Processed : Places → ℕ → ℕ → Type 0
Processed p k v = position p v < max 1 k

module _ {E : Type 0} (neutral : E) (sum : E → E → E) (value : ℕ → Link → E) where
  -- What a run comes to at a period.
  abbrev pub worth : ℕ → List Link → E
  worth period [] = neutral
  worth period (l ∷ ls) = sum (value period l) (worth period ls)

  -- The entry from position a to position b is what some run of the sheet's links comes to. Its inner places are at
  -- processed positions.
  pub record MadeOf (s : RuleSheet) (p : Places) (k a b : ℕ) (e : E) : Type 0 where
    pub run : List Link
    pub joins : Run s (place p a) (place p b) run
    pub inner : Through (Processed p k) run
    pub comes : worth s.period run ≡ e

  module _ (under : E → E → Type 0) (within : ℕ → E → Type 0) where
    -- What an entry of the chart is before any position is processed.
    pub record Start (s : RuleSheet) (p : Places) (a b : ℕ) (e : E) : Type 0 where
      pub made : MadeOf s p 0 a b e
      pub short : within 2 e
      pub diagonal : a ≡ b → under neutral e

    -- An entry to be written first; one from or to place 0 is at most one link.
    pub record Edge (s : RuleSheet) (p : Places) (a b : ℕ) (e : E) : Type 0 where
      pub start : Start s p a b e
      pub edge : (a ≡ 0) ⊎ (b ≡ 0) → within 1 e

    -- The rows below r, and in row r the entries before column c, are written.
    abbrev pub StartedTo : RuleSheet → Places → ℕ → ℕ → List E → Type 0
    StartedTo s p r c xs =
        (a b : ℕ) → a < p.count → b < p.count → (a < r) ⊎ ((a ≡ r) × (b < c)) → Edge s p a b (at neutral xs a b)

    -- The entries of the whole chart are such, and the links with codes below a number are under their entries.
    pub record FilledTo (s : RuleSheet) (p : Places) (code : ℕ) (xs : List E) : Type 0 where
      pub starts : (a b : ℕ) → a < p.count → b < p.count → Start s p a b (at neutral xs a b)
      pub links : (l : Link) → IsLink s l → l.code < code
          → under (value s.period l) (at neutral xs (position p l.from) (position p l.to))

    -- What a working chart tells of a sheet once the positions below k are processed.
    pub record Worked (s : RuleSheet) (p : Places) (k : ℕ) (xs : List E) : Type 0 where
      -- every link is under its entry
      pub links : (l : Link) → IsLink s l
          → under (value s.period l) (at neutral xs (position p l.from) (position p l.to))
      pub diagonal : (a : ℕ) → a < p.count → under neutral (at neutral xs a a)
      -- no way over a processed position comes to more than the entry
      pub triangle : (m a b : ℕ) → m < k → a < p.count → b < p.count
          → under (sum (at neutral xs a m) (at neutral xs m b)) (at neutral xs a b)
      pub made : (a b : ℕ) → a < p.count → b < p.count → MadeOf s p k a b (at neutral xs a b)
      -- so that sums of up to eight entries are exact
      pub short : (a b : ℕ) → a < p.count → b < p.count → within (2 ^ 33) (at neutral xs a b)

    -- Every position is processed.
    pub record Closes (s : RuleSheet) (xs : List E) (p : Places) : Type 0 where
      pub places : IsPlaces s p
      pub worked : Worked s p p.count xs

    -- The positions below k are processed, and the entry of k to itself beats the neutral one: some closed run does.
    pub record StopsAt (s : RuleSheet) (xs : List E) (p : Places) (k : ℕ) : Type 0 where
      pub places : IsPlaces s p
      pub inside : k < p.count
      pub worked : Worked s p k xs
      pub beats : under (at neutral xs k k) neutral → ⊥

    -- The answer of a working chart that has its room.
    abbrev pub Answered : RuleSheet → List E → Result Places Stop → Type 0
    Answered s xs (Ok p) = Closes s xs p
    Answered s xs (Err Short) = ⊥
    Answered s xs (Err (Beaten p k)) = StopsAt s xs p k

    -- The chart stands in the first 1,024 entries of a buffer, and what lies behind them is as it was.
    pub record AtFront (s : RuleSheet) (xs ys : List E) (r : Result Places Stop) : Type 0 where
      pub room : 1024 ≤ length xs
      pub chart : Answered s (take 1024 ys) r
      pub rest : drop 1024 ys ≡ drop 1024 xs

    -- The buffer is too short, and stays as it was.
    pub record LacksRoom (xs ys : List E) : Type 0 where
      pub short : length xs < 1024
      pub same : ys ≡ xs

    -- The answer of a working chart for a sheet, from its buffer before and after.
    abbrev pub WorkedOut : RuleSheet → List E → List E → Result Places Stop → Type 0
    WorkedOut s xs ys (Ok p) = AtFront s xs ys (Ok p)
    WorkedOut s xs ys (Err Short) = LacksRoom xs ys
    WorkedOut s xs ys (Err (Beaten p k)) = AtFront s xs ys (Err (Beaten p k))
