-- What is proved of sheets, timetables and links in general. Assumes nothing.
use Rattle.std.specs.Prelude.{◌≡◌, ℕ, ◌<◌, ◌≤◌, List, length, ℤ, pos, neg_ℤ, ◌≤ℤ◌}
use Rattle.std.specs.List.{ContainsAt, AllByRecursion}
use Rattle.sheet.specs.declared.forms.Link.{Link}
use Rattle.sheet.specs.Sheets.{RuleSheet, Present}
use Rattle.sheet.specs.Limits.{Sound}
use Rattle.sheet.specs.Timetables.{Timetable, Covers, Lawful}
use Rattle.sheet.specs.Links.{IsLink, Satisfies, Run, Loop, Distinct, run_weight}
use Rattle.sheet.specs.Layers.{at_period}
use Rattle.sheet.specs.Waits.{delay, IsWait, IsChart, IsBound}
use Rattle.walks.specs.Codes.{Tells, link_of}
use Rattle.walks.specs.Matrices.{Matrix, Closed, MadeOfRuns, row_timetable}

-- A timetable is lawful exactly if it gives a start to exactly the sheet's steps and satisfies every link.
pub record LawfulIsLinks : Type 0 where
  pub links : (s : RuleSheet) (t : Timetable) → Lawful s t → Satisfies s t
  pub lawful : (s : RuleSheet) (t : Timetable) → Covers s t → Satisfies s t → Lawful s t

-- In a lawful timetable the starts at the ends of a run differ by at least its weight.
abbrev pub RunsBind : Type 0
RunsBind =
    (s : RuleSheet) (t : Timetable) → Lawful s t
    → (i j : ℕ) (ls : List Link) → Run s i j ls → run_weight s.period ls ≤ℤ delay t i j

-- A run that comes back to where it began and weighs at least 1 leaves no lawful timetable.
abbrev pub ClosedRunsForbid : Type 0
ClosedRunsForbid =
    (s : RuleSheet) (i : ℕ) (ls : List Link) → Run s i i ls → pos 1 ≤ℤ run_weight s.period ls
    → (t : Timetable) → Lawful s t → ⊥

-- Each row of a closed matrix is a lawful timetable that attains every entry of the row; and if the entries are made
-- of runs, each is the wait between its places.
pub record ClosedMatricesTellWaits : Type 0 where
  pub lawful : (s : RuleSheet) → Sound s → (d : Matrix) → Closed s d
      → (i : ℕ) → Present s i → Lawful s (row_timetable s d i)
  pub attained : (s : RuleSheet) → Sound s → (d : Matrix) → Closed s d
      → (i j : ℕ) → Present s i → Present s j → delay (row_timetable s d i) i j ≡ d i j
  pub waits : (s : RuleSheet) → Sound s → (d : Matrix) → Closed s d → MadeOfRuns s d
      → (i j : ℕ) → Present s i → Present s j → IsWait s i j (d i j)

-- There is at most one wait between two places, one wait chart and one period bound.
pub record UniqueAnswers : Type 0 where
  pub waits : (s : RuleSheet) (i j : ℕ) (a b : ℤ) → IsWait s i j a → IsWait s i j b → a ≡ b
  pub charts : (s : RuleSheet) (a b : List ℤ) → IsChart s a → IsChart s b → a ≡ b
  pub bounds : (s : RuleSheet) (a b : ℕ) → IsBound s a → IsBound s b → a ≡ b

-- A loop that weighs at least 1 at a period, made of links of the run.
pub record HeavyLoop (s : RuleSheet) (period : ℕ) (run : List Link) : Type 0 where
  pub links : List Link
  pub loop : Loop s links
  pub heavy : pos 1 ≤ℤ run_weight period links
  pub within : AllByRecursion (ContainsAt run) links

abbrev pub HeavyRunsHaveLoops : Type 0
HeavyRunsHaveLoops =
    (s : RuleSheet) (period i : ℕ) (ls : List Link) → Run s i i ls → pos 1 ≤ℤ run_weight period ls → HeavyLoop s period ls

-- What is lawful at a period is lawful at every longer one.
abbrev pub LongerPeriodsKeep : Type 0
LongerPeriodsKeep =
    (s : RuleSheet) (t : Timetable) (hours : ℕ) → s.period ≤ hours → Lawful s t → Lawful (at_period s hours) t

-- Different numbers below n number at most n; so a sound sheet's loops have at most 32 links.
pub record LoopsAreShort : Type 0 where
  pub numbers : (n : ℕ) (xs : List ℕ) → AllByRecursion (λ x. x < n) xs → Distinct xs → length xs ≤ n
  pub loops : (s : RuleSheet) → Sound s → (ls : List Link) → Loop s ls → length ls ≤ 32

-- The waits of a sound sheet lie between -2,000 and 2,000.
abbrev pub WaitsAreSmall : Type 0
WaitsAreSmall =
    (s : RuleSheet) → Sound s → (i j : ℕ) (wait : ℤ) → IsWait s i j wait
    → (neg_ℤ (pos 2000) ≤ℤ wait) × (wait ≤ℤ pos 2000)

-- The links of a sound sheet have codes below 432, no two of them the same; and the link read off the sheet for a code
-- is the one that has it.
pub record CodesNameLinks : Type 0 where
  pub below : (s : RuleSheet) → Sound s → (l : Link) → IsLink s l → l.code < 432
  pub apart : (s : RuleSheet) → Sound s → (l m : Link) → IsLink s l → IsLink s m → l.code ≡ m.code → l ≡ m
  pub told : (s : RuleSheet) → Sound s → (code : ℕ) → Tells s code (link_of s code)
