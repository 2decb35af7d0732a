-- A merge of two books into one planner. Assumes nothing.
use Rattle.std.specs.Prelude.{◌≡◌, ℕ, ◌+◌, ◌/◌, ◌≤◌, List, ◌++◌, length, drop, Ok, Err, Result}
use Rattle.kinds.specs.declared.alone.Hours.{Hours}
use Rattle.loops.specs.Loops.{RestKept}
use Rattle.sheet.specs.declared.forms.Sheet.{Sheet}
use Rattle.merge.specs.Books.{EnteredBook}
use Rattle.merge.specs.declared.refusals.MergeRefusal.{MergeRefusal}
use Rattle.merge.specs.declared.refusals.MergeRefusal.TheVariants.{TooLong, TooShort}
use Rattle.merge.specs.declared.reports.Book.TheVariants.{Office, Tablet}
use Rattle.merge.specs.declared.reports.Report.{Report}

-- What the rules make of two books: first the office's, then the tablet's into the sheet that the office's has left.
pub record Merges (sheet : Sheet) (office tablet : List ℕ) (after : Sheet) (reports : List Report) : Type 0 where
  pub between : Sheet
  pub by_office : List Report
  pub by_tablet : List Report
  pub first : EnteredBook Office sheet office between by_office
  pub second : EnteredBook Tablet between tablet after by_tablet
  pub all : reports ≡ by_office ++ by_tablet

-- half of a book's bytes, rounded up: a book tells no more items than that
abbrev pub half : ℕ → ℕ
half n = (n + 1) / 2

-- the buffers of a merge: a working chart, and the reports
pub record Buffers : Type 0 where
  pub hours : List Hours
  pub reports : List Report

pub record Room (office tablet : List ℕ) (b : Buffers) : Type 0 where
  pub hours : 1024 ≤ length b.hours
  pub reports : half (length office) + half (length tablet) ≤ length b.reports

-- Neither book has more than 4,096 bytes.
pub record Readable (office tablet : List ℕ) : Type 0 where
  pub office_short : length office ≤ 4096
  pub tablet_short : length tablet ≤ 4096

-- The books are merged: there is exactly one sheet and one list of reports that the rules make of them. The reports stand
-- at the front of their buffer, and what lies behind them is as it was.
pub record Done (sheet : Sheet) (office tablet : List ℕ) (before : Buffers) (count : ℕ) (after_sheet : Sheet) (after : Buffers) : Type 0 where
  pub readable : Readable office tablet
  pub room : Room office tablet before
  pub told : List Report
  pub merges : Merges sheet office tablet after_sheet told
  pub only : (other : Sheet) (others : List Report) → Merges sheet office tablet other others → (other ≡ after_sheet) × (others ≡ told)
  pub counted : count ≡ length told
  pub written : after.reports ≡ told ++ drop count before.reports
  pub working : RestKept before.hours after.hours

-- The answer to a merge. It is refused whole, which leaves all as it was, by 24 if a book is too long, and then by 30 if a
-- buffer is too short.
abbrev pub Merged : Sheet → List ℕ → List ℕ → Buffers → Sheet → Buffers → Result ℕ MergeRefusal → Type 0
Merged sheet office tablet before after_sheet after (Ok count) = Done sheet office tablet before count after_sheet after
Merged sheet office tablet before after_sheet after (Err TooLong) =
    (Readable office tablet → ⊥) × (after_sheet ≡ sheet) × (after ≡ before)
Merged sheet office tablet before after_sheet after (Err TooShort) =
    Readable office tablet × (Room office tablet before → ⊥) × (after_sheet ≡ sheet) × (after ≡ before)
