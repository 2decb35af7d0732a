-- One turn of a merge: an item that a reader tells, and the report on it. Assumes nothing.
use Rattle.std.specs.Prelude.{◌≡◌, ℕ, ◌+◌, List, ◌++◌, length, drop, Some, None, Option, Result, slice_set}
use Rattle.book.specs.Reading.{Item}
use Rattle.book.specs.Walks.{Walk}
use Rattle.kinds.specs.declared.alone.Hours.{Hours}
use Rattle.loops.specs.Loops.{RestKept}
use Rattle.planner.specs.Admitting.{number_in}
use Rattle.planner.specs.declared.refusals.Refusal.{Refusal}
use Rattle.sheet.specs.declared.forms.Sheet.{Sheet}
use Rattle.merge.specs.Books.{Answered, EnteredAll, EnteredBook, offset_in}
use Rattle.merge.specs.declared.reports.Book.{Book}
use Rattle.merge.specs.declared.reports.Report.{Report}

-- an item was entered, or refused
pub record ItemEntered (sheet : Sheet) (item : Item) (hours hours_after : List Hours) (after : Sheet) (r : Result (Unit {0}) Refusal) : Type 0 where
  pub answered : Answered sheet item (number_in r) after
  pub working : RestKept hours hours_after

-- the reports with one more at a place, if there is one more
abbrev pub with_note : Book → Item → Option ℕ → List Report → ℕ → List Report
with_note book item None reports place = reports
with_note book item (Some number) reports place = slice_set reports place (record { book = book; offset = offset_in item; number = number })

-- how many reports there are after an item
abbrev pub count_after : Option ℕ → ℕ → ℕ
count_after None count = count
count_after (Some number) count = count + 1

-- an item was entered, or refused and noted
pub record ItemTaken (book : Book) (sheet : Sheet) (item : Item) (hours hours_after : List Hours) (reports reports_after : List Report) (count : ℕ) (after : Sheet) (r : ℕ) : Type 0 where
  pub answer : Option ℕ
  pub answered : Answered sheet item answer after
  pub written : reports_after ≡ with_note book item answer reports count
  pub counted : r ≡ count_after answer count
  pub working : RestKept hours hours_after

-- the items that a reader tells of a book from a place on were taken
pub record ItemsTaken (book : Book) (bytes : List ℕ) (place : ℕ) (sheet : Sheet) (hours hours_after : List Hours) (reports reports_after : List Report) (after : Sheet) (r : ℕ) : Type 0 where
  pub told : List Report
  pub entered : (all : List Item) → Walk bytes place all → EnteredAll book sheet all after told
  pub counted : r ≡ length told
  pub written : reports_after ≡ told ++ drop r reports
  pub working : RestKept hours hours_after

-- a whole book was taken
pub record BookTaken (book : Book) (bytes : List ℕ) (sheet : Sheet) (hours hours_after : List Hours) (reports reports_after : List Report) (after : Sheet) (r : ℕ) : Type 0 where
  pub told : List Report
  pub entered : EnteredBook book sheet bytes after told
  pub counted : r ≡ length told
  pub written : reports_after ≡ told ++ drop r reports
  pub working : RestKept hours hours_after
