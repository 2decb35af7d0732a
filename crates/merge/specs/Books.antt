-- What comes of a book's commands, entered one after another, each into the sheet then standing. Assumes nothing.
use Rattle.std.specs.Prelude.{◌≡◌, ℕ, List, [], ◌∷◌, ◌++◌, Some, None, Ok, Err, Option}
use Rattle.book.specs.Numbers.{number}
use Rattle.book.specs.Reading.{Item}
use Rattle.book.specs.Walks.{items}
use Rattle.planner.specs.Rules.{Outcome}
use Rattle.sheet.specs.declared.forms.Sheet.{Sheet}
use Rattle.merge.specs.declared.reports.Book.{Book}
use Rattle.merge.specs.declared.reports.Report.{Report}

-- What comes of one item that a reader tells. A command is entered or refused by the rules; a reader's fault leaves the
-- sheet, and is refused by its own number.
abbrev pub Answered : Sheet → Item → Option ℕ → Sheet → Type 0
Answered sheet (Ok placed) answer after = Outcome sheet placed.instruction answer after
Answered sheet (Err fault) answer after = (answer ≡ Some (number fault.cause)) × (after ≡ sheet)

-- where in its book an item stands
abbrev pub offset_in : Item → ℕ
offset_in (Ok placed) = placed.offset
offset_in (Err fault) = fault.offset

-- One report for each refusal: the book, the offset of the command in it, and the number.
abbrev pub noted : Book → Item → Option ℕ → List Report
noted book item None = []
noted book item (Some number) = record { book = book; offset = offset_in item; number = number } ∷ []

-- The items of a book are entered in their order, each into the sheet then standing, and every refusal is reported.
abbrev pub EnteredAll : Book → Sheet → List Item → Sheet → List Report → Type 0
EnteredAll book sheet [] after reports = (after ≡ sheet) × (reports ≡ [])
EnteredAll book sheet (item ∷ rest) after reports =
    ((between : Sheet) × (answer : Option ℕ) × (later : List Report)
    × Answered sheet item answer between × EnteredAll book between rest after later × (reports ≡ noted book item answer ++ later))

-- A whole book. After a fault its rest is dropped: the fault is then the last item that a reader tells of it.
abbrev pub EnteredBook : Book → Sheet → List ℕ → Sheet → List Report → Type 0
EnteredBook book sheet bytes after reports = EnteredAll book sheet (items bytes) after reports
