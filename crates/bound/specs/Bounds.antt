-- The answer to a call for the period bound. Assumes nothing.
use Rattle.std.specs.Prelude.{◌≡◌, ℕ, ◌<◌, ◌≤◌, List, length, pos, ◌≤ℤ◌, Ok, Err, Result}
use Rattle.kinds.specs.declared.alone.Hours.{Hours}
use Rattle.kinds.specs.declared.together.Counted.{Counted}
use Rattle.loops.specs.Loops.{LoopWritten, RestKept}
use Rattle.sheet.specs.Layers.{at_period}
use Rattle.sheet.specs.Links.{Loop, run_weight}
use Rattle.sheet.specs.Sheets.{RuleSheet}
use Rattle.sheet.specs.Timetables.{Timetable, Lawful}
use Rattle.sheet.specs.Waits.{IsBound}
use Rattle.sheet.specs.declared.forms.Link.{Link}
use Rattle.loops.specs.declared.refusals.LoopRefusal.{LoopRefusal}
use Rattle.loops.specs.declared.refusals.LoopRefusal.TheVariants.{TooShort, NoTimetable}

-- The sheet has a lawful timetable at a period, or has none there.
abbrev pub Works : RuleSheet → ℕ → Type 0
Works s hours = ∥ ((t : Timetable) × Lawful (at_period s hours) t) ∥₁

abbrev pub Fails : RuleSheet → ℕ → Type 0
Fails s hours = (t : Timetable) → Lawful (at_period s hours) t → ⊥

-- Some loop of the sheet weighs at least 1 at a period.
pub record Blocked (s : RuleSheet) (hours : ℕ) : Type 0 where
  pub links : List Link
  pub loop : Loop s links
  pub heavy : pos 1 ≤ℤ run_weight hours links

-- The least period with a lawful timetable.
pub record Least (s : RuleSheet) (hours : ℕ) : Type 0 where
  pub works : Works s hours
  pub shorter : (less : ℕ) → 1 ≤ less → less < hours → Fails s less

-- the three buffers of a call: two working charts and the codes
pub record Buffers : Type 0 where
  pub hours : List Hours
  pub counted : List Counted
  pub codes : List ℕ

pub record Room (b : Buffers) : Type 0 where
  pub hours : 1024 ≤ length b.hours
  pub counted : 1024 ≤ length b.counted
  pub codes : 32 ≤ length b.codes

-- The bound was told, which is also the least period with a lawful timetable. Of the working charts the one of hours
-- was used.
pub record Told (s : RuleSheet) (bound : ℕ) (before after : Buffers) : Type 0 where
  pub room : Room before
  pub hours : RestKept before.hours after.hours
  pub counted : after.counted ≡ before.counted
  pub is : IsBound s bound
  pub least : Least s bound
  pub codes : after.codes ≡ before.codes

-- There is no lawful timetable at the longest period: the codes of a loop of the sheet at that period are written.
pub record Refused (s : RuleSheet) (count : ℕ) (before after : Buffers) : Type 0 where
  pub room : Room before
  pub none : Fails s 999
  pub hours : RestKept before.hours after.hours
  pub counted : RestKept before.counted after.counted
  pub loop : LoopWritten (at_period s 999) before.codes after.codes count

-- Some buffer is too short: all are as they were.
abbrev pub Bounded : RuleSheet → Buffers → Buffers → Result ℕ LoopRefusal → Type 0
Bounded s before after (Ok bound) = Told s bound before after
Bounded s before after (Err TooShort) = (Room before → ⊥) × (after ≡ before)
Bounded s before after (Err (NoTimetable count)) = Refused s count before after
