-- The whole printed sheet of two books. Assumes nothing.
use Rattle.std.specs.Prelude.{◌≡◌, ℕ, zero, suc, List, [], ◌++◌, Some, None, Option}
use Rattle.std.specs.List.{flat_map}
use Rattle.lines.specs.Texts.{text_of, period_text, step_text, refused_text}
use Rattle.lines.specs.declared.line.Line.TheVariants.{Reported}
use Rattle.merge.specs.Merging.{Merges, Readable}
use Rattle.merge.specs.declared.reports.Report.{Report}
use Rattle.planner.specs.Questions.{IsWindow}
use Rattle.sheet.specs.Edits.{empty_sheet}
use Rattle.sheet.specs.Sheets.{numbered, rule_sheet}
use Rattle.sheet.specs.Waits.{IsBound}
use Rattle.sheet.specs.declared.forms.Sheet.{Sheet}
use Rattle.sheet.specs.declared.forms.Step.{Step}

abbrev pub report_line : Report → List ℕ
report_line report = text_of (Reported report)

-- What is printed of the step of a number, if it is there: its number, its name, and its window.
abbrev pub LineOf : Sheet → ℕ → Option Step → List ℕ → Type 0
LineOf sheet n None line = line ≡ []
LineOf sheet n (Some step) line =
    ((first : ℕ) × (last : ℕ) × IsWindow (rule_sheet sheet) n first last × (line ≡ step_text n step.name first last))

-- The lines of the steps from number 1 up to another, by rising number.
abbrev pub StepLines : Sheet → ℕ → List ℕ → Type 0
StepLines sheet zero text = text ≡ []
StepLines sheet (suc n) text =
    ((before : List ℕ) × (line : List ℕ) × StepLines sheet n before × LineOf sheet (suc n) (numbered None sheet.steps (suc n)) line × (text ≡ before ++ line))

-- The printed sheet of two readable books: what their merge into an empty planner reports, in order; then the period and
-- the bound of the sheet; then its steps.
pub record Printed (office tablet text : List ℕ) : Type 0 where
  pub sheet : Sheet
  pub reports : List Report
  pub merges : Merges empty_sheet office tablet sheet reports
  pub bound : ℕ
  pub is_bound : IsBound (rule_sheet sheet) bound
  pub steps : List ℕ
  pub are_steps : StepLines sheet 31 steps
  pub whole : text ≡ flat_map report_line reports ++ (period_text sheet.period bound ++ steps)

-- With a book that is too long, only this is printed.
pub record Page (office tablet text : List ℕ) : Type 0 where
  pub if_readable : Readable office tablet → Printed office tablet text
  pub if_too_long : (Readable office tablet → ⊥) → text ≡ refused_text 24
