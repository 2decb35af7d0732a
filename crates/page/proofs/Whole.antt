-- The printed sheet of two books that were merged into an empty planner. Assumes nothing.
use Rattle.std.proofs.Common.{◌≡◌, ℕ, List, [], ◌∷◌, take, IfOk, Some, None, Ok, Err, Option, Result, sym, refl, subst}
use Rattle.book.specs.Commands.{Instruction}
use Rattle.book.specs.Reading.{Item}
use Rattle.book.specs.Walks.{items}
use Rattle.merge.proofs.Told.{front}
use Rattle.merge.specs.Books.{Answered, EnteredAll}
use Rattle.merge.specs.Merging.{Merges, Buffers, Done}
use Rattle.merge.specs.declared.reports.Book.{Book}
use Rattle.merge.specs.declared.reports.Book.TheVariants.{Office, Tablet}
use Rattle.merge.specs.declared.reports.Report.{Report}
use Rattle.planner.proofs.Empty.{empty_plannable}
use Rattle.planner.specs.Rules.{Possible, Outcome}
use Rattle.sheet.specs.Edits.{empty_sheet}
use Rattle.sheet.specs.declared.forms.Sheet.{Sheet}
use Rattle.page.specs.Parts.{SheetAdded, PageAdded}

-- a sheet that has a lawful timetable keeps one, whatever is entered
outcome_possible : (sheet : Sheet) (i : Instruction) (answer : Option ℕ) (after : Sheet) → Possible sheet → Outcome sheet i answer after → Possible after
outcome_possible sheet i None after possible comes = subst Possible (sym comes.becomes) comes.possible
outcome_possible sheet i (Some n) after possible comes = subst Possible (sym comes.stays) possible

answered_possible : (sheet : Sheet) (item : Item) (answer : Option ℕ) (after : Sheet) → Possible sheet → Answered sheet item answer after → Possible after
answered_possible sheet (Ok placed) answer after possible comes = outcome_possible sheet placed.instruction answer after possible comes
answered_possible sheet (Err fault) answer after possible comes = subst Possible (sym comes.1) possible

entered_possible : (book : Book) (sheet : Sheet) (all : List Item) (after : Sheet) (told : List Report) → Possible sheet → EnteredAll book sheet all after told → Possible after
entered_possible book sheet [] after told possible comes = subst Possible (sym comes.0) possible
entered_possible book sheet (item ∷ rest) after told possible comes =
    entered_possible book comes.0 rest after comes.2 (answered_possible sheet item comes.1 comes.0 possible comes.3) comes.4

pub merges_possible : (sheet : Sheet) (office tablet : List ℕ) (after : Sheet) (told : List Report) → Possible sheet → Merges sheet office tablet after told → Possible after
merges_possible sheet office tablet after told possible merges =
    entered_possible Tablet merges.between (items tablet) after merges.by_tablet
    (entered_possible Office sheet (items office) merges.between merges.by_office possible merges.first) merges.second

module _ (sheet : Sheet) (empty : sheet ≡ empty_sheet) (office tablet : List ℕ) (before : Buffers) (count : ℕ) (after_sheet : Sheet) (after : Buffers) (done : Done sheet office tablet before count after_sheet after) where
  merges : Merges empty_sheet office tablet after_sheet done.told
  merges = subst (λ s. Merges s office tablet after_sheet done.told) empty done.merges

  pub possible : Possible after_sheet
  possible = merges_possible empty_sheet office tablet after_sheet done.told empty_plannable.lawful merges

  pub page_made : {E : Type 0} (text all : List ℕ) (r : Result (Unit {0}) E) → IfOk r (λ _. SheetAdded after_sheet (take count after.reports) text all) → IfOk r (λ _. PageAdded office tablet text all)
  page_made text all (Err why) added = tt
  page_made text all (Ok ok) added =
      let sheet_added = subst (λ reports. SheetAdded after_sheet reports text all) (front sheet office tablet before count after_sheet after done) added in
      record {
        text = _;
        is_page = record {
          if_readable = λ _. record {
            sheet = after_sheet;
            reports = done.told;
            merges = merges;
            bound = sheet_added.bound;
            is_bound = sheet_added.is_bound;
            steps = sheet_added.steps;
            are_steps = sheet_added.are_steps;
            whole = refl;
          };
          if_too_long = λ long. absurd (long done.readable);
        };
        added = sheet_added.added;
      }
