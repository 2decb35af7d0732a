-- The whole promise. Assumes nothing.
use Rattle.std.specs.Prelude.{◌≡◌, ℕ, ◌↔◌, Bool, List, ℤ, Some, None, Ok, Err, vec_items, IsTrue, Option, Result}
use Rattle.alike.specs.Theorems.{Alike}
use Rattle.book.specs.Commands.{Instruction}
use Rattle.changes.specs.Changes.{asked}
use Rattle.changes.specs.Faults.{first_fault}
use Rattle.choose.specs.Choosing.{HourRule}
use Rattle.kinds.specs.declared.alone.Hours.{Hours}
use Rattle.kinds.specs.declared.together.Counted.{Counted}
use Rattle.planner.specs.Entering.{sheet_of}
use Rattle.planner.specs.Rules.{Possible, Outcome}
use Rattle.runs.specs.Runs.{Asked}
use Rattle.runs.specs.Turns.{RunTaken}
use Rattle.sheet.specs.Sheets.{RuleSheet}
use Rattle.sheet.specs.declared.forms.Sheet.{Sheet}
use Rattle.loops.specs.declared.refusals.LoopRefusal.{LoopRefusal}
use Rattle.promise.specs.Charts.{ChartTold}
use Rattle.promise.specs.Plans.{PlanTold}
use Rattle.promise.specs.declared.promise.Kept.{Kept}

-- A command is refused by 14 exactly when it has no other fault and the sheet that it asks for has no lawful timetable.
pub record Fourteen : Type 0 where
  pub only : (sheet : Sheet) (i : Instruction) (after : Sheet) → Outcome sheet i (Some 14) after
      → (first_fault sheet i ≡ None) × (Possible (asked sheet i) → ⊥)
  pub always : (sheet : Sheet) (i : Instruction) → first_fault sheet i ≡ None → (Possible (asked sheet i) → ⊥)
      → Outcome sheet i (Some 14) sheet

-- Two charts are compared in all entries; and they are equal exactly when the same timetables are lawful for both sheets.
pub record AlikeTold (s u : RuleSheet) (a b : List ℤ) (same : Bool) : Type 0 where
  pub equal : IsTrue same ↔ (a ≡ b)
  pub alike : a ≡ b → Alike s u
  pub unlike : Alike s u → a ≡ b

-- Charts are compared if both were given.
abbrev pub Compared : RuleSheet → RuleSheet → Result (List ℤ) LoopRefusal → Result (List ℤ) LoopRefusal → Option Bool → Type 0
Compared s u (Ok a) (Ok b) (Some same) = AlikeTold s u a b same
Compared s u (Ok a) (Ok b) None = ⊥
Compared s u (Ok a) (Err refusal) answer = answer ≡ None
Compared s u (Err refusal) second answer = answer ≡ None

-- What is kept of any calls, any two sheets told by rule sources, any rule of a chooser and any stock, with working charts
-- and codes of any length.
pub record Promise (calls : List Asked) (s u : RuleSheet) (rule : HourRule) (stock : List ℕ) (hours : List Hours) (counted : List Counted) (codes : List ℕ) (kept : Kept) : Type 0 where
  -- Carried out one by one on an empty planner, the calls leave exactly the sheet and the notes that the rules work out
  -- from the calls alone.
  pub runs : RunTaken calls (sheet_of kept.planner) (vec_items kept.notes)
  pub fourteen : Fourteen
  -- The wait charts of both sheets, and what their comparison says.
  pub first_chart : ChartTold s hours counted codes kept.first
  pub second_chart : ChartTold u hours counted codes kept.second
  pub compared : Compared s u kept.first kept.second kept.same
  -- The plan of the first sheet.
  pub planned : PlanTold s rule stock hours counted codes kept.plan
