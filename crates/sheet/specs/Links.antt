-- Links between places, runs of links and loops. Assumes nothing.
use Rattle.std.specs.Prelude.{◌≡◌, ℕ, ◌+◌, ◌*◌, ◌<◌, List, [], ◌∷◌, map, length, ℤ, pos, ◌+ℤ◌, ◌-ℤ◌, neg_ℤ, ◌≤ℤ◌, ◌≢◌}
use Rattle.std.specs.List.{AllByRecursion}
use Rattle.sheet.specs.declared.forms.Link.{Link}
use Rattle.sheet.specs.declared.forms.Rule.TheVariants.{After, Within, At}
use Rattle.sheet.specs.Sheets.{RuleSheet, rule_at, HasStep, duration}
use Rattle.sheet.specs.Timetables.{Timetable, start}

-- The weight of a link at a period. A link's hours are its weight without the parts that the period takes away, one
-- for each carry; so one link serves every period.
abbrev pub weight : ℕ → Link → ℤ
weight period l = l.hours -ℤ pos (l.carries * period)

-- The links of a sheet. They do not depend on its period. Floor, ceiling and turn belong to every step.
pub data IsLink (s : RuleSheet) : Link → Type 0 where
  after : (r u v gap carry : ℕ) → rule_at s r ≡ After u v gap carry
      → IsLink s (record { from = u; to = v; hours = pos (duration s u + gap); carries = carry; code = r })
  within : (r u v hours : ℕ) → rule_at s r ≡ Within u v hours
      → IsLink s (record { from = v; to = u; hours = neg_ℤ (pos hours); carries = 0; code = r })
  at : (r v hour : ℕ) → rule_at s r ≡ At v hour
      → IsLink s (record { from = 0; to = v; hours = pos hour; carries = 0; code = r })
  at_back : (r v hour : ℕ) → rule_at s r ≡ At v hour
      → IsLink s (record { from = v; to = 0; hours = neg_ℤ (pos hour); carries = 0; code = 100 + r })
  -- no step starts before hour zero
  floor : (v : ℕ) → HasStep s v
      → IsLink s (record { from = 0; to = v; hours = pos 0; carries = 0; code = 200 + v })
  -- no step ends after the span
  ceiling : (v : ℕ) → HasStep s v
      → IsLink s (record { from = v; to = 0; hours = pos (duration s v) -ℤ pos s.span; carries = 0; code = 300 + v })
  -- a step's vessel is wanted again one period later
  turn : (v : ℕ) → HasStep s v
      → IsLink s (record { from = v; to = v; hours = pos (duration s v); carries = 1; code = 400 + v })

-- The starts at a link's two ends differ by at least its weight.
abbrev pub Keeps : RuleSheet → Timetable → Link → Type 0
Keeps s t l = weight s.period l ≤ℤ (start t l.to -ℤ start t l.from)

-- The timetable satisfies every link of the sheet.
abbrev pub Satisfies : RuleSheet → Timetable → Type 0
Satisfies s t = (l : Link) → IsLink s l → Keeps s t l

-- A run of links from place i to place j: each link begins where the one before it ended.
abbrev pub Run : RuleSheet → ℕ → ℕ → List Link → Type 0
Run s i j [] = i ≡ j
Run s i j (l ∷ ls) = (l.from ≡ i) × IsLink s l × Run s l.to j ls

-- Sums over the links of a run.
abbrev pub run_weight : ℕ → List Link → ℤ
run_weight period [] = pos 0
run_weight period (l ∷ ls) = weight period l +ℤ run_weight period ls

abbrev pub run_hours : List Link → ℤ
run_hours [] = pos 0
run_hours (l ∷ ls) = l.hours +ℤ run_hours ls

abbrev pub run_carries : List Link → ℕ
run_carries [] = 0
run_carries (l ∷ ls) = l.carries + run_carries ls

-- No number comes twice.
abbrev pub Distinct : List ℕ → Type 0
Distinct [] = Unit {0}
Distinct (x ∷ xs) = AllByRecursion (λ y. x ≢ y) xs × Distinct xs

-- The places at which the links begin: those that a closed run meets.
abbrev pub places : List Link → List ℕ
places ls = map (λ l. l.from) ls

-- A loop is a run with at least one link that ends where it began and meets no place twice.
pub record Loop (s : RuleSheet) (ls : List Link) : Type 0 where
  pub base : ℕ
  pub closed : Run s base base ls
  pub some : 0 < length ls
  pub once : Distinct (places ls)
