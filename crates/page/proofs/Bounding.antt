-- A sheet with a lawful timetable has one at the longest period. Assumes nothing.
use mathlib.Core.HLevel.{⊥_prop}
use mathlib.Core.Logic.{∥∥₁_elim}
use Rattle.std.proofs.Common.{Err}
use Rattle.bound.specs.Bounds.{Buffers, Room, Bounded}
use Rattle.loops.specs.declared.refusals.LoopRefusal.{LoopRefusal}
use Rattle.loops.specs.declared.refusals.LoopRefusal.TheVariants.{TooShort, NoTimetable}
use Rattle.planner.specs.Rules.{Possible}
use Rattle.sheet.specs.Limits.{Sound}
use Rattle.sheet.specs.Sheets.{rule_sheet}
use Rattle.sheet.specs.declared.forms.Sheet.{Sheet}
use Rattle.walks.proofs.Periods.{longer_keeps}

pub bound_given : (sheet : Sheet) → Sound (rule_sheet sheet) → Possible sheet → (before after : Buffers) (refusal : LoopRefusal) → Bounded (rule_sheet sheet) before after (Err refusal) → Room before → ⊥
bound_given sheet sound possible before after TooShort short room = short.0 room
bound_given sheet sound possible before after (NoTimetable count) refused room =
    ∥∥₁_elim possible ⊥_prop (λ way. refused.none way.0 (longer_keeps (rule_sheet sheet) way.0 999 sound.period.1 way.1))
