-- What each line of the printed sheet says. One space separates fields, numbers are unpadded, and 0x0A ends a line.
-- Assumes nothing.
use Rattle.std.specs.Prelude.{◌≡◌, ℕ, cond, List, ◌++◌, length, drop, is_ok, Ok, Err, codes, decimal, Result, nat_le}
use Rattle.merge.specs.declared.reports.Book.{Book}
use Rattle.merge.specs.declared.reports.Book.TheVariants.{Office, Tablet}
use Rattle.lines.specs.declared.line.Line.{Line}
use Rattle.lines.specs.declared.line.Line.TheVariants.{Refused, Reported, Period, Step}
use Rattle.lines.specs.declared.line.LineRefusal.{LineRefusal}
use Rattle.lines.specs.declared.line.LineRefusal.TheVariants.{TooShort}

abbrev pub book_name : Book → List ℕ
book_name Office = codes "office"
book_name Tablet = codes "tablet"

-- A report: the book, the offset in it, the number.
abbrev pub report_text : List ℕ → ℕ → ℕ → List ℕ
report_text name offset number = name ++ (codes " " ++ (decimal offset ++ (codes " " ++ (decimal number ++ codes "\n"))))

-- The period of the sheet, and the shortest that it could have.
abbrev pub period_text : ℕ → ℕ → List ℕ
period_text period bound = codes "period " ++ (decimal period ++ (codes " bound " ++ (decimal bound ++ codes "\n")))

-- A step: its number, its name, its earliest and its latest start.
abbrev pub step_text : ℕ → List ℕ → ℕ → ℕ → List ℕ
step_text number name earliest latest =
    decimal number ++ (codes " " ++ (name ++ (codes " " ++ (decimal earliest ++ (codes " " ++ (decimal latest ++ codes "\n"))))))

-- A merge that was refused whole.
abbrev pub refused_text : ℕ → List ℕ
refused_text number = codes "refused " ++ (decimal number ++ codes "\n")

abbrev pub text_of : Line → List ℕ
text_of (Refused number) = refused_text number
text_of (Reported report) = report_text (book_name report.book) report.offset report.number
text_of (Period period bound) = period_text period bound
text_of (Step number name earliest latest) = step_text number name earliest latest

abbrev pub line_number : LineRefusal → ℕ
line_number TooShort = 30

-- A line was written to the front of a buffer, what lies behind it is as it was, and its length is told. A buffer of
-- fewer than 32 bytes is refused and left as it was.
pub record LineWritten (text before : List ℕ) (r : Result ℕ LineRefusal) (after : List ℕ) : Type 0 where
  pub answer : r ≡ cond (nat_le 32 (length before)) (Ok (length text)) (Err TooShort)
  pub bytes_after : after ≡ cond (is_ok r) (text ++ drop (length text) before) before
