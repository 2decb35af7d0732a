-- A planner for a sheet whose wait chart was given. Assumes nothing.
use Rattle.std.proofs.Common.{◌≡◌, List, length, drop, ℤ, None, Ok, Err, sym, refl, ap, ◌∙◌, subst, arith}
use mathlib.Core.Logic.{∥∥₁_map}
use Rattle.std.proofs.lemmas.List.{take_all}
use Rattle.loops.specs.Loops.{LoopWritten}
use Rattle.sheet.specs.Limits.{FullSound}
use Rattle.sheet.specs.Sheets.{rule_sheet}
use Rattle.sheet.specs.Timetables.{Timetable, Lawful}
use Rattle.sheet.specs.Waits.{IsChart}
use Rattle.sheet.specs.declared.forms.Sheet.{Sheet}
use Rattle.book.specs.Commands.{Instruction}
use Rattle.changes.proofs.Entered.{entered_sound}
use Rattle.changes.specs.Changes.{asked}
use Rattle.changes.specs.Faults.{first_fault}
use Rattle.checked.specs.declared.checked.CheckedSheet.{CheckedSheet}
use Rattle.waits.specs.Charts.{ChartWritten, Charted, Buffers as ChartBuffers}
use Rattle.planner.specs.Asking.{AskedFor, PlannerFor}
use Rattle.planner.specs.Entering.{Buffers, Room, Entered, sheet_of}
use Rattle.planner.specs.declared.planner.Planner.{Planner}
use Rattle.planner.specs.declared.refusals.Refusal.{Refusal}
use Rattle.planner.specs.declared.refusals.Refusal.TheVariants as planner
use Rattle.planner.specs.Invariant.{Plannable}

module _ (sheet : Sheet) (before chart : List ℤ) (size : length chart ≡ 1024) (written : ChartWritten (rule_sheet sheet) before chart) where
  whole : IsChart (rule_sheet sheet) chart
  whole = subst (IsChart (rule_sheet sheet)) (take_all 1024 chart (omega arith)) written.chart

  -- hour zero has a wait to itself, which some lawful timetable attains
  pub has_lawful : ∥ ((t : Timetable) × Lawful (rule_sheet sheet) t) ∥₁
  has_lawful = ∥∥₁_map ((whole.entries 0 0 (omega arith) (omega arith)).there refl).attained (λ way. (way.0, way.1))

  pub plannable : Plannable sheet chart
  plannable = record { lawful = has_lawful; waits = whole }

-- the buffers of a call without a caller's chart
abbrev pub less_chart : ChartBuffers → Buffers
less_chart b = record { hours = b.hours; counted = b.counted; codes = b.codes }

-- a planner with the chart that was given
pub by_chart : (sheet : Sheet) (before after : ChartBuffers) (planner : Planner) → sheet_of planner ≡ sheet → Charted (rule_sheet sheet) before after (Ok tt) → length after.chart ≡ 1024 → PlannerFor sheet (less_chart before) (less_chart after) (Ok planner)
by_chart sheet before after planner is given size = record {
  told = is;
  lawful = has_lawful sheet before.chart after.chart size given.written;
  charts = record { hours = given.hours; counted = ap (drop 1024) given.counted };
  codes = given.codes;
}

module _ (sheet : Sheet) (i : Instruction) (checked : CheckedSheet) (asks : AskedFor sheet i (Ok checked)) (before after : Buffers) (room : Room before) where
  pub accepted : (planner standing : Planner) → standing ≡ planner → PlannerFor checked.sheet before after (Ok planner) → Entered sheet i before (sheet_of standing) after (Ok tt)
  accepted planner standing is planned = record {
    room = room;
    no_fault = asks.0;
    lawful = subst (λ x. ∥ ((t : Timetable) × Lawful (rule_sheet x) t) ∥₁) asks.1 planned.lawful;
    becomes = ap sheet_of is ∙ planned.told ∙ asks.1;
    charts = planned.charts;
    codes = planned.codes;
  }

  pub refused : (refusal : Refusal) → PlannerFor checked.sheet before after (Err refusal) → Entered sheet i before sheet after (Err refusal)
  refused (planner.Faulty fault) never = absurd never
  refused (planner.NoTimetable count) unplanned = record {
    room = room;
    no_fault = asks.0;
    none = subst (λ x. (t : Timetable) → Lawful (rule_sheet x) t → ⊥) asks.1 unplanned.none;
    stays = refl;
    charts = unplanned.charts;
    loop = subst (λ x. LoopWritten (rule_sheet x) before.codes after.codes count) asks.1 unplanned.loop;
  }
  refused (planner.Unread fault) never = absurd never
  refused planner.TooShort never = absurd never

-- the sheet that a command without fault asks for keeps every limit
pub asked_kept : (sheet new : Sheet) (i : Instruction) → ∥ FullSound sheet ∥₁ → (first_fault sheet i ≡ None) × (new ≡ asked sheet i) → ∥ FullSound new ∥₁
asked_kept sheet new i ok changed = ∥∥₁_map ok (λ full. subst FullSound (sym changed.1) (entered_sound sheet full i changed.0))
