-- The least period with a lawful timetable is the period bound. Assumes nothing.
use Rattle.std.proofs.Common.{◌≡◌, ℕ, ◌+◌, ◌-◌, ◌*◌, ◌<◌, ◌≤◌, true, false, ◌⊎◌, List, [], ◌∷◌, length, take, pos, ◌-ℤ◌, ◌≤ℤ◌, ◌<ℤ◌, is_ok, Ok, Err, Result, refl, ap, ◌∙◌, subst, inl, inr, ⊎_elim, mul_comm, mul-zero, arith}
use mathlib.Core.Logic.{∥∥₁_elim}
use Rattle.std.proofs.lemmas.Int.{ints, by_lt_z}
use Rattle.std.proofs.lemmas.Bool.{cases_lt, true≢false, false≢true}
use Rattle.chart.specs.Runs.{WorkedOut}
use Rattle.chart.specs.declared.places.Places.{Places}
use Rattle.chart.specs.declared.places.Stop.{Stop}
use Rattle.chart.specs.declared.places.Stop.TheVariants.{Short, Beaten}
use Rattle.kinds.proofs.Measures.{closed_matrix, heavy_run}
use Rattle.kinds.proofs.Weighing.{hours_alone}
use Rattle.kinds.specs.Alone.{no_hours, hours_sum, HoursUnder, AloneWithin, link_hours}
use Rattle.kinds.specs.declared.alone.Hours.{Hours}
use Rattle.sheet.specs.Layers.{at_period, as_period}
use Rattle.sheet.specs.Limits.{SoundSheet}
use Rattle.sheet.specs.Links.{IsLink, after, within, at, at_back, floor, ceiling, turn, Run, Loop, run_weight, run_hours, run_carries}
use Rattle.sheet.specs.Sheets.{RuleSheet}
use Rattle.sheet.specs.Timetables.{Timetable, Lawful}
use Rattle.sheet.specs.Waits.{IsBound}
use Rattle.sheet.specs.declared.forms.Link.{Link}
use Rattle.walks.proofs.LoopLaws.{heavy_loop}
use Rattle.walks.proofs.Periods.{longer_keeps}
use Rattle.walks.proofs.Potentials.{row_lawful}
use Rattle.walks.proofs.RunLaws.{no_lawful, weight_by_parts}
use Rattle.loops.specs.Loops.{RestKept}
use Rattle.bound.specs.Bounds.{Works, Fails, Blocked, Least}

-- the links of a sheet are the same at every period
link_at : {s : RuleSheet} {l : Link} (hours : ℕ) → IsLink s l → IsLink (at_period s hours) l
link_at hours (after r u v gap carry e) = after r u v gap carry e
link_at hours (within r u v h e) = within r u v h e
link_at hours (at r v hour e) = at r v hour e
link_at hours (at_back r v hour e) = at_back r v hour e
link_at hours (floor v there) = floor v there
link_at hours (ceiling v there) = ceiling v there
link_at hours (turn v there) = turn v there

run_at : (s : RuleSheet) (hours i j : ℕ) (ls : List Link) → Run s i j ls → Run (at_period s hours) i j ls
run_at s hours i j [] run = run
run_at s hours i j (l ∷ ls) run = (run.0, link_at hours run.1, run_at s hours l.to j ls run.2)

loop_at : (s : RuleSheet) (hours : ℕ) (ls : List Link) → Loop s ls → Loop (at_period s hours) ls
loop_at s hours ls loop = record { base = loop.base; closed = run_at s hours loop.base loop.base ls loop.closed; some = loop.some; once = loop.once }

pub blocked_fails : {s : RuleSheet} {hours : ℕ} → Blocked s hours → Fails s hours
blocked_fails {s} {hours} blocked =
    let loop = loop_at s hours blocked.links blocked.loop in
    no_lawful (at_period s hours) loop.base blocked.links loop.closed blocked.heavy

-- a loop weighs at most 0 at a period that works
light : (s : RuleSheet) (hours : ℕ) → Works s hours → (ls : List Link) → Loop s ls → run_weight hours ls ≤ℤ pos 0
light s hours works ls loop =
    by_lt_z (pos 0) (run_weight hours ls)
    (λ heavy. absurd (∥∥₁_elim works (λ x y. absurd x) (λ some. blocked_fails {s = s} {hours = hours} (record { links = ls; loop = loop; heavy = omega (arith, ints) }) some.0 some.1)))
    (λ low. low)

-- a loop's weight in two parts
parts : (hours : ℕ) (ls : List Link) → run_weight hours ls ≡ run_hours ls -ℤ pos (hours * run_carries ls)
parts hours ls = weight_by_parts hours ls ∙ ap (λ n. run_hours ls -ℤ pos n) (mul_comm (run_carries ls) hours)

-- a loop that is too heavy at one period and not at another has a carry
carried : (s : RuleSheet) (hours less : ℕ) → Works s hours → (blocked : Blocked s less) → 1 ≤ run_carries blocked.links
carried s hours less works blocked =
    ⊎_elim
    (λ (none : run_carries blocked.links < 1).
    let here = light s hours works blocked.links blocked.loop in
    let heavy = blocked.heavy in
    let first = parts hours blocked.links in
    let second = parts less blocked.links in
    let zero_first : hours * run_carries blocked.links ≡ 0 = ap (λ n. hours * n) (omega arith) ∙ mul-zero hours in
    let zero_second : less * run_carries blocked.links ≡ 0 = ap (λ n. less * n) (omega arith) ∙ mul-zero less in
    absurd (omega (arith, ints)))
    (λ some. some)
    (cases_lt (run_carries blocked.links) 1)

pub is_bound : (s : RuleSheet) (hours : ℕ) → 1 ≤ hours → Works s hours → (hours ≡ 1) ⊎ Blocked s (hours - 1) → IsBound s hours
is_bound s hours low works below = record {
  low = low;
  enough = λ ls loop some. let h = light s hours works ls loop in let two = parts hours ls in omega (arith, ints);
  tight = ∣ by_below below ∣₁;
}
  where
    by_below : (hours ≡ 1) ⊎ Blocked s (hours - 1) → (hours ≡ 1) ⊎ ((ls : List Link) × Loop s ls × (1 ≤ run_carries ls) × (pos ((hours - 1) * run_carries ls) <ℤ run_hours ls))
    by_below (inl one) = inl one
    by_below (inr blocked) =
        let two = parts (hours - 1) blocked.links in
        let heavy = blocked.heavy in
        inr (blocked.links, blocked.loop, carried s hours (hours - 1) works blocked, omega (arith, ints))

pub is_least : (s : RuleSheet) (hours : ℕ) → Works s hours → (hours ≡ 1) ⊎ Blocked s (hours - 1) → Least s hours
is_least s hours works below = record { works = works; shorter = by_below below }
  where
    by_below : (hours ≡ 1) ⊎ Blocked s (hours - 1) → (less : ℕ) → 1 ≤ less → less < hours → Fails s less
    by_below (inl one) less low short t lawful = absurd (omega arith)
    by_below (inr blocked) less low short t lawful = blocked_fails blocked t (longer_keeps (at_period s less) t (hours - 1) (omega arith) lawful)

-- the search has come to neighbours
pub below_bound : (s : RuleSheet) (low high : ℕ) → high ≡ low + 1 → (low ≡ 0) ⊎ Blocked s low → (high ≡ 1) ⊎ Blocked s (high - 1)
below_bound s low high next (inl none) = inl (omega arith)
below_bound s low high next (inr blocked) = let back : low ≡ high - 1 = omega arith in inr (subst (Blocked s) back blocked)

-- what a worked chart says of the sheet
module _ (sheet : SoundSheet) (before after : List Hours) (room : 1024 ≤ length before) where
  pub worked_works : (r : Result Places Stop) → WorkedOut no_hours hours_sum link_hours HoursUnder AloneWithin sheet.told before after r → is_ok r ≡ true → ∥ ((t : Timetable) × Lawful sheet.told t) ∥₁
  worked_works (Ok p) closes ok = ∣ (_, row_lawful sheet.told sheet.sound _ (let chart = closes.chart in closed_matrix hours_alone sheet p chart.places (take 1024 after) chart.worked) 0 refl) ∣₁
  worked_works (Err stop) told ok = absurd (false≢true ok)

  pub worked_blocked : (r : Result Places Stop) → WorkedOut no_hours hours_sum link_hours HoursUnder AloneWithin sheet.told before after r → is_ok r ≡ false → Blocked sheet.told sheet.told.period
  worked_blocked (Ok p) closes fails = absurd (true≢false fails)
  worked_blocked (Err Short) lacks fails = let short = lacks.short in absurd (omega arith)
  worked_blocked (Err (Beaten p k)) stops fails =
      let chart = stops.chart in
      let run = heavy_run hours_alone sheet p chart.places (take 1024 after) k k chart.worked chart.inside chart.beats in
      let heavy = heavy_loop sheet.told sheet.told.period _ run.run run.closed run.heavy in
      record { links = heavy.links; loop = heavy.loop; heavy = heavy.heavy }

  pub worked_kept : (r : Result Places Stop) → WorkedOut no_hours hours_sum link_hours HoursUnder AloneWithin sheet.told before after r → RestKept before after
  worked_kept (Ok p) closes = closes.rest
  worked_kept (Err Short) lacks = let short = lacks.short in absurd (omega arith)
  worked_kept (Err (Beaten p k)) stops = stops.rest

-- a period from 1 to 999 is told as it is
pub as_it_is : (hours : ℕ) → 1 ≤ hours → hours ≤ 999 → as_period hours ≡ hours
as_it_is hours low high = omega arith

-- a loop at another period is a loop of the sheet
pub blocked_back : (s : RuleSheet) (hours : ℕ) → Blocked (at_period s hours) hours → Blocked s hours
blocked_back s hours blocked = record { links = blocked.links; loop = loop_at (at_period s hours) s.period blocked.links blocked.loop; heavy = blocked.heavy }
