-- The answer to a call for the wait chart. Assumes nothing.
use Rattle.std.specs.Prelude.{◌≡◌, ℕ, ◌≤◌, List, length, take, drop, ℤ, Ok, Err, Result}
use Rattle.chart.specs.Positions.{IsPlaces}
use Rattle.chart.specs.Runs.{Worked}
use Rattle.chart.specs.declared.places.Places.{Places}
use Rattle.kinds.specs.Alone.{no_hours, hours_sum, HoursUnder, AloneWithin, link_hours}
use Rattle.kinds.specs.declared.alone.Hours.{Hours}
use Rattle.kinds.specs.declared.together.Counted.{Counted}
use Rattle.loops.specs.Loops.{LoopWritten, RestKept}
use Rattle.sheet.specs.Sheets.{RuleSheet}
use Rattle.sheet.specs.Timetables.{Timetable, Lawful}
use Rattle.sheet.specs.Waits.{IsChart}
use Rattle.loops.specs.declared.refusals.LoopRefusal.{LoopRefusal}
use Rattle.loops.specs.declared.refusals.LoopRefusal.TheVariants.{TooShort, NoTimetable}

-- a working chart of hours in which every position is processed
pub record Finished (s : RuleSheet) (p : Places) (cells : List Hours) : Type 0 where
  pub room : 1024 ≤ length cells
  pub places : IsPlaces s p
  pub chart : Worked no_hours hours_sum link_hours HoursUnder AloneWithin s p p.count cells

-- the wait chart stands at the front of a buffer, and what lies behind it is as it was
pub record ChartWritten (s : RuleSheet) (before after : List ℤ) : Type 0 where
  pub chart : IsChart s (take 1024 after)
  pub rest : drop 1024 after ≡ drop 1024 before

-- the four buffers of a call: two working charts, the chart and the codes
pub record Buffers : Type 0 where
  pub hours : List Hours
  pub counted : List Counted
  pub chart : List ℤ
  pub codes : List ℕ

pub record Room (b : Buffers) : Type 0 where
  pub hours : 1024 ≤ length b.hours
  pub counted : 1024 ≤ length b.counted
  pub chart : 1024 ≤ length b.chart
  pub codes : 32 ≤ length b.codes

-- A chart was given: it is the sheet's, and the codes are as they were. Of the working charts the one of hours was used.
pub record Given (s : RuleSheet) (before after : Buffers) : Type 0 where
  pub room : Room before
  pub hours : RestKept before.hours after.hours
  pub counted : after.counted ≡ before.counted
  pub written : ChartWritten s before.chart after.chart
  pub codes : after.codes ≡ before.codes

-- The sheet has no lawful timetable: the codes of a loop are written, and the chart is as it was.
pub record Refused (s : RuleSheet) (count : ℕ) (before after : Buffers) : Type 0 where
  pub room : Room before
  pub none : (t : Timetable) → Lawful s t → ⊥
  pub hours : RestKept before.hours after.hours
  pub counted : RestKept before.counted after.counted
  pub loop : LoopWritten s before.codes after.codes count
  pub chart : after.chart ≡ before.chart

-- Some buffer is too short: all are as they were.
abbrev pub Charted : RuleSheet → Buffers → Buffers → Result (Unit {0}) LoopRefusal → Type 0
Charted s before after (Ok done) = Given s before after
Charted s before after (Err TooShort) = (Room before → ⊥) × (after ≡ before)
Charted s before after (Err (NoTimetable count)) = Refused s count before after

-- A chart was given, from a working chart of hours alone.
pub record GivenPlainly (s : RuleSheet) (hours hours_after : List Hours) (chart chart_after : List ℤ)
    : Type 0 where
  pub room : (1024 ≤ length hours) × (1024 ≤ length chart)
  pub working : RestKept hours hours_after
  pub written : ChartWritten s chart chart_after

-- The sheet has no lawful timetable: the chart is as it was, and no codes are told.
pub record RefusedPlainly (s : RuleSheet) (count : ℕ) (hours hours_after : List Hours)
    (chart chart_after : List ℤ) : Type 0 where
  pub room : (1024 ≤ length hours) × (1024 ≤ length chart)
  pub none : (t : Timetable) → Lawful s t → ⊥
  pub no_codes : count ≡ 0
  pub working : RestKept hours hours_after
  pub kept : chart_after ≡ chart

-- The answer to a call for the wait chart that looks for no loop.
abbrev pub PlainlyCharted : RuleSheet → List Hours → List Hours → List ℤ → List ℤ
    → Result (Unit {0}) LoopRefusal → Type 0
PlainlyCharted s hours hours_after chart chart_after (Ok done) =
    GivenPlainly s hours hours_after chart chart_after
PlainlyCharted s hours hours_after chart chart_after (Err TooShort) =
    ((1024 ≤ length hours) × (1024 ≤ length chart) → ⊥) × (hours_after ≡ hours) × (chart_after ≡ chart)
PlainlyCharted s hours hours_after chart chart_after (Err (NoTimetable count)) =
    RefusedPlainly s count hours hours_after chart chart_after
