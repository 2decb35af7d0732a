-- Books by their numbers, and what is reported of a refusal. Assumes nothing.
use Rattle.std.specs.Prelude.{ℕ, List}
use Rattle.planner.specs.Refusals.{refusal_number}
use Rattle.merge.specs.declared.reports.Book.{Book}
use Rattle.merge.specs.declared.reports.Book.TheVariants.{Office, Tablet}
use Rattle.merge.specs.declared.reports.Refused.{Refused}
use Rattle.merge.specs.declared.reports.Report.{Report}

abbrev pub book_number : Book → ℕ
book_number Office = 1
book_number Tablet = 2

-- the bytes of one of two books
abbrev pub bytes_of : Book → List ℕ → List ℕ → List ℕ
bytes_of Office office tablet = office
bytes_of Tablet office tablet = tablet

abbrev pub report_on : Refused → Report
report_on refused = record { book = refused.book; offset = refused.offset; number = refusal_number refused.refusal }
