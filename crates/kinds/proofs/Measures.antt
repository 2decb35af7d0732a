-- What a worked chart tells in hours, for every kind of entry that tells hours. Assumes nothing.
use Rattle.std.proofs.Common.{◌≡◌, ℕ, ◌<◌, List, [], ◌∷◌, ℤ, pos, ◌+ℤ◌, ◌≤ℤ◌, sym, ap, ◌∙◌, subst, arith}
use Rattle.std.proofs.lemmas.Int.{ints}
use Rattle.sheet.specs.declared.forms.Link.{Link}
use Rattle.sheet.specs.Sheets.{RuleSheet, Present}
use Rattle.sheet.specs.Limits.{SoundSheet}
use Rattle.sheet.specs.Links.{Run, weight, run_weight}
use Rattle.walks.specs.Matrices.{Matrix, Closed, MadeOfRuns}
use Rattle.walks.proofs.Short.{present_below}
use Rattle.chart.specs.declared.places.Places.{Places}
use Rattle.chart.specs.Cells.{at}
use Rattle.chart.specs.Positions.{place, position, IsPlaces}
use Rattle.chart.specs.Runs.{worth, Worked}

-- A kind of entry tells hours: they add up along a run, more hours never rank lower, and what beats the neutral entry
-- has at least one.
pub record Measures {E : Type 0} (neutral : E) (sum : E → E → E) (under : E → E → Type 0) (value : ℕ → Link → E)
    (hours : E → ℤ) : Type 0 where
  pub nothing : hours neutral ≡ pos 0
  pub adds : (x y : E) → hours (sum x y) ≡ hours x +ℤ hours y
  pub ranks : (x y : E) → under x y → hours x ≤ℤ hours y
  pub weighs : (period : ℕ) (l : Link) → hours (value period l) ≡ weight period l
  pub beaten : (x : E) → (under x neutral → ⊥) → pos 1 ≤ℤ hours x

-- The hours of the entry between two places.
abbrev pub hours_between : {E : Type 0} → E → (E → ℤ) → Places → List E → Matrix
hours_between neutral hours p xs i j = hours (at neutral xs (position p i) (position p j))

-- A run that ends where it began and weighs at least 1.
pub record HeavyRun (s : RuleSheet) (i : ℕ) : Type 0 where
  pub run : List Link
  pub closed : Run s i i run
  pub heavy : pos 1 ≤ℤ run_weight s.period run

module _ {E : Type 0} {neutral : E} {sum : E → E → E} {under : E → E → Type 0} {value : ℕ → Link → E}
    {hours : E → ℤ} (measures : Measures neutral sum under value hours) where
  pub worth_hours : (period : ℕ) (ls : List Link) → hours (worth neutral sum value period ls) ≡ run_weight period ls
  worth_hours period [] = measures.nothing
  worth_hours period (l ∷ ls) =
      let sum_is_lem = measures.adds (value period l) (worth neutral sum value period ls) in
      let first = measures.weighs period l in
      let rest = worth_hours period ls in
      omega (arith, ints)

  module _ (sound : SoundSheet) (p : Places) (is : IsPlaces sound.told p) (xs : List E) where
    low : (i : ℕ) → Present sound.told i → position p i < p.count
    low i there = is.found i (present_below sound.told sound.sound i there) there

    place_back : (i : ℕ) → Present sound.told i → place p (position p i) ≡ i
    place_back i there = is.place_of i (present_below sound.told sound.sound i there) there

    -- a chart of which every position is processed
    module _ {within : ℕ → E → Type 0} (chart : Worked neutral sum value under within sound.told p p.count xs) where
      triangle : (a m b : ℕ) → a < p.count → m < p.count → b < p.count
          → (hours (at neutral xs a m) +ℤ hours (at neutral xs m b)) ≤ℤ hours (at neutral xs a b)
      triangle a m b low_a low_m low_b =
          let sum_is_lem = measures.adds (at neutral xs a m) (at neutral xs m b) in
          let way = measures.ranks _ _ (chart.triangle m a b low_m low_a low_b) in
          omega (arith, ints)

      pub closed_matrix : Closed sound.told (hours_between neutral hours p xs)
      closed_matrix =
          record {
            zero_diagonal =
                λ i there.
                let twice = triangle (position p i) (position p i) (position p i) (low i there) (low i there) (low i there) in
                let nothing = measures.nothing in
                let above = measures.ranks _ _ (chart.diagonal (position p i) (low i there)) in
                omega (arith, ints);
            triangle =
                λ i k j here mid there. triangle (position p i) (position p k) (position p j) (low i here) (low k mid) (low j there);
            above_links =
                λ l link.
                let weighs = measures.weighs sound.told.period l in
                let under_entry = measures.ranks _ _ (chart.links l link) in
                omega (arith, ints);
          }

      pub matrix_of_runs : MadeOfRuns sound.told (hours_between neutral hours p xs)
      matrix_of_runs i j here there =
          let made = chart.made (position p i) (position p j) (low i here) (low j there) in
          let run = subst (λ (v : ℕ). Run sound.told v (place p (position p j)) made.run) (place_back i here) made.joins in
          ∣ (
            made.run,
            subst (λ (v : ℕ). Run sound.told i v made.run) (place_back j there) run,
            sym (worth_hours sound.told.period made.run) ∙ ap hours made.comes,
          ) ∣₁

    -- a chart that stopped at a position: its entry to itself is a closed run that weighs at least 1
    pub heavy_run : {within : ℕ → E → Type 0} (k a : ℕ) → Worked neutral sum value under within sound.told p k xs → a < p.count
        → (under (at neutral xs a a) neutral → ⊥) → HeavyRun sound.told (place p a)
    heavy_run k a chart inside beats =
        let made = chart.made a a inside inside in
        let weighs = worth_hours sound.told.period made.run in
        let comes = ap hours made.comes in
        let heavy = measures.beaten (at neutral xs a a) beats in
        record { run = made.run; closed = made.joins; heavy = omega (arith, ints) }
