-- Parts of the printed sheet, added behind some text. Assumes nothing.
use Rattle.std.specs.Prelude.{◌≡◌, ℕ, List, [], ◌++◌, Some, None, Option}
use Rattle.std.specs.List.{flat_map}
use Rattle.lines.specs.Texts.{text_of, period_text}
use Rattle.lines.specs.declared.line.Line.{Line}
use Rattle.merge.specs.declared.reports.Report.{Report}
use Rattle.sheet.specs.Sheets.{numbered, rule_sheet}
use Rattle.sheet.specs.Waits.{IsBound}
use Rattle.sheet.specs.declared.forms.Sheet.{Sheet}
use Rattle.page.specs.Pages.{LineOf, StepLines, Page, report_line}

-- the text of a line, if there is one
abbrev pub text_if : Option Line → List ℕ
text_if None = []
text_if (Some line) = text_of line

-- what is printed of one step
pub record StepAdded (sheet : Sheet) (n : ℕ) (before after : List ℕ) : Type 0 where
  pub line : List ℕ
  pub is_line : LineOf sheet n (numbered None sheet.steps n) line
  pub added : after ≡ before ++ line

-- the lines of the steps up to a number
pub record StepsAdded (sheet : Sheet) (n : ℕ) (before after : List ℕ) : Type 0 where
  pub steps : List ℕ
  pub are_steps : StepLines sheet n steps
  pub added : after ≡ before ++ steps

-- all lines of a sheet
pub record SheetAdded (sheet : Sheet) (reports : List Report) (before after : List ℕ) : Type 0 where
  pub bound : ℕ
  pub is_bound : IsBound (rule_sheet sheet) bound
  pub steps : List ℕ
  pub are_steps : StepLines sheet 31 steps
  pub added : after ≡ before ++ (flat_map report_line reports ++ (period_text sheet.period bound ++ steps))

-- the printed sheet of two books
pub record PageAdded (office tablet before after : List ℕ) : Type 0 where
  pub text : List ℕ
  pub is_page : Page office tablet text
  pub added : after ≡ before ++ text
