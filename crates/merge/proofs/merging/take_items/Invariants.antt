use Rattle.std.proofs.Common.{◌-◌, length}
use Rattle.book.specs.Reading.{book_of, place_of}
use Rattle.planner.specs.Entering.{sheet_of}
use Rattle.merge.proofs.Turning.{Taking}
use Rattle.merge.proofs.merging.take_items.Given as goal

abbrev pub invariant-loop-item : goal.invariant-loop-item
invariant-loop-item l =
    Taking l.book l.initial.reader (sheet_of l.initial.planner) l.initial.hours l.initial.reports l.reader (sheet_of l.planner) l.hours l.reports l.count

abbrev pub decreases-loop-item : goal.decreases-loop-item
decreases-loop-item l = length (book_of l.reader) - place_of l.reader
