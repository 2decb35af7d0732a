-- What a planner always keeps. Assumes nothing.
use Rattle.std.specs.Prelude.{List, replicate, ℤ, pos, slice_set}
use Rattle.sheet.specs.Sheets.{rule_sheet}
use Rattle.sheet.specs.Timetables.{Timetable, Lawful}
use Rattle.sheet.specs.Waits.{IsChart, no_wait}
use Rattle.sheet.specs.declared.forms.Sheet.{Sheet}

-- The sheet has a lawful timetable, and the chart is its wait chart.
pub record Plannable (sheet : Sheet) (chart : List ℤ) : Type 0 where
  pub lawful : ∥ ((t : Timetable) × Lawful (rule_sheet sheet) t) ∥₁
  pub waits : IsChart (rule_sheet sheet) chart

-- The chart of a sheet without steps: hour zero alone has a wait, to itself.
abbrev pub empty_chart : List ℤ
empty_chart = slice_set (replicate 1024 no_wait) 0 (pos 0)
