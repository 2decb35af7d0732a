-- Waits between places, the wait chart and the period bound. Assumes nothing.
use Rattle.std.specs.Prelude.{◌≡◌, ℕ, ◌+◌, ◌-◌, ◌*◌, ◌<◌, ◌≤◌, true, false, ◌&&◌, ◌⊎◌, List, length, ℤ, pos, negsuc, ◌-ℤ◌, ◌≤ℤ◌, ◌<ℤ◌, slice_index_or}
use Rattle.sheet.specs.declared.forms.Link.{Link}
use Rattle.sheet.specs.Sheets.{RuleSheet, present}
use Rattle.sheet.specs.Timetables.{Timetable, start, Lawful}
use Rattle.sheet.specs.Links.{Loop, run_hours, run_carries}

-- How many hours the start at place j lies after the start at place i; below zero if it lies before.
abbrev pub delay : Timetable → ℕ → ℕ → ℤ
delay t i j = start t j -ℤ start t i

-- The wait from i to j: the least delay over all lawful timetables.
pub record IsWait (s : RuleSheet) (i j : ℕ) (wait : ℤ) : Type 0 where
  -- some lawful timetable has it
  pub attained : ∥ ((t : Timetable) × Lawful s t × (delay t i j ≡ wait)) ∥₁
  -- and none has less
  pub least : (t : Timetable) → Lawful s t → wait ≤ℤ delay t i j

-- What a chart holds in the place of a wait from or to an absent step: -32,768.
abbrev pub no_wait : ℤ
no_wait = negsuc 32767

-- The entry of the wait chart from place i to place j.
pub record IsEntry (s : RuleSheet) (i j : ℕ) (entry : ℤ) : Type 0 where
  pub there : (present s i && present s j) ≡ true → IsWait s i j entry
  pub absent : (present s i && present s j) ≡ false → entry ≡ no_wait

-- The wait chart: 1,024 numbers, the entry from place i to place j at 32 × i + j.
pub record IsChart (s : RuleSheet) (chart : List ℤ) : Type 0 where
  pub size : length chart ≡ 1024
  pub entries : (i j : ℕ) → i < 32 → j < 32 → IsEntry s i j (slice_index_or chart (32 * i + j) (pos 0))

-- The period bound: the largest of 1 and, over the loops with a carry, their hours divided by their carries, rounded up.
pub record IsBound (s : RuleSheet) (bound : ℕ) : Type 0 where
  pub low : 1 ≤ bound
  -- no loop with a carry asks for more
  pub enough : (ls : List Link) → Loop s ls → 1 ≤ run_carries ls → run_hours ls ≤ℤ pos (bound * run_carries ls)
  -- and it is 1, or one hour less would be too little for some loop with a carry
  pub tight : ∥ (bound ≡ 1)
      ⊎ ((ls : List Link) × Loop s ls × (1 ≤ run_carries ls) × (pos ((bound - 1) * run_carries ls) <ℤ run_hours ls)) ∥₁
