use Rattle.std.proofs.Common.{◌-◌, length}
use Rattle.book.specs.Reading.{book_of, place_of}
use Rattle.card.proofs.Checks.{Checked}
use Rattle.card.proofs.checking.judge_all.Given as goal

abbrev pub invariant-loop-item : goal.invariant-loop-item
invariant-loop-item l = Checked l.initial.reader l.end l.reader l.stage l.marks

abbrev pub decreases-loop-item : goal.decreases-loop-item
decreases-loop-item l = length (book_of l.reader) - place_of l.reader
