-- The number of each refusal. Assumes nothing.
use Rattle.std.specs.Prelude.{ℕ}
use Rattle.book.specs.Numbers.{number}
use Rattle.changes.specs.Faults.{fault_number}
use Rattle.loops.specs.declared.refusals.LoopRefusal.{LoopRefusal}
use Rattle.loops.specs.declared.refusals.LoopRefusal.TheVariants as loop
use Rattle.planner.specs.declared.refusals.Refusal.{Refusal}
use Rattle.planner.specs.declared.refusals.Refusal.TheVariants.{Faulty, NoTimetable, Unread, TooShort}

abbrev pub refusal_number : Refusal → ℕ
refusal_number (Faulty fault) = fault_number fault
refusal_number (NoTimetable count) = 14
refusal_number (Unread fault) = number fault.cause
refusal_number TooShort = 30

-- why there is no planner where there is no wait chart
abbrev pub without_chart : LoopRefusal → Refusal
without_chart loop.TooShort = TooShort
without_chart (loop.NoTimetable count) = NoTimetable count
