-- A command and a fault in plain words. Assumes nothing.
use Rattle.std.specs.Prelude.{ℕ, cond, ◌&&◌, List, ◌++◌, map, Ok, Err, codes, decimal, nat_le}
use Rattle.book.specs.Commands.{Instruction, add_step, remove_step, set_duration, put_after, put_within, put_at, remove_rule, set_period, set_span, set_vessels}
use Rattle.book.specs.Numbers.{number}
use Rattle.book.specs.Reading.{Item}
use Rattle.book.specs.declared.faults.Cause.{Cause}
use Rattle.book.specs.declared.faults.Cause.TheVariants.{UnknownByte, CutOff, TooLong}

-- a byte of a name as it is shown: printable ASCII as it stands, and a question mark for any other, since nothing
-- has judged the name yet and a terminal would act on some bytes
abbrev pub shown : ℕ → ℕ
shown b = cond (nat_le 32 b && nat_le b 126) b 63

-- a step to be added, under a name that can be shown
abbrev pub step_added : ℕ → List ℕ → ℕ → ℕ → List ℕ
step_added step name duration kind = codes "add step " ++ (decimal step ++ (codes " \"" ++ (name ++ (codes "\", " ++ (decimal duration ++ (codes " hours, kind " ++ decimal kind))))))

abbrev pub sentence : Instruction → List ℕ
sentence (add_step step duration kind name) = step_added step (map shown name) duration kind
sentence (remove_step step) = codes "remove step " ++ decimal step
sentence (set_duration step duration) = codes "step " ++ (decimal step ++ (codes " takes " ++ (decimal duration ++ codes " hours")))
sentence (put_after rule u v gap carry) = codes "rule " ++ (decimal rule ++ (codes ": step " ++ (decimal v ++ (codes ", " ++ (decimal carry ++ (codes " brews on, starts at least " ++ (decimal gap ++ (codes " hours after step " ++ (decimal u ++ codes " ends")))))))))
sentence (put_within rule u v hours) = codes "rule " ++ (decimal rule ++ (codes ": step " ++ (decimal v ++ (codes " starts at most " ++ (decimal hours ++ (codes " hours after step " ++ (decimal u ++ codes " starts")))))))
sentence (put_at rule v hour) = codes "rule " ++ (decimal rule ++ (codes ": step " ++ (decimal v ++ (codes " starts at hour " ++ decimal hour))))
sentence (remove_rule rule) = codes "remove rule " ++ decimal rule
sentence (set_period period) = codes "a brew starts every " ++ (decimal period ++ codes " hours")
sentence (set_span span) = codes "a brew ends within " ++ (decimal span ++ codes " hours")
sentence (set_vessels kind count) = decimal count ++ (codes " vessels of kind " ++ decimal kind)

abbrev pub reason : Cause → List ℕ
reason UnknownByte = codes "unknown command byte"
reason CutOff = codes "command cut off"
reason TooLong = codes "more than 4096 bytes"

-- a fault by its number and reason
abbrev pub fault_told : ℕ → List ℕ → List ℕ
fault_told n why = codes "fault " ++ (decimal n ++ (codes ", " ++ (why ++ codes "; the rest of the book is dropped")))

-- a line: an offset, then some words
abbrev pub line_of : ℕ → List ℕ → List ℕ
line_of offset words = decimal offset ++ (codes ": " ++ (words ++ codes "\n"))

-- an item's line
abbrev pub line : Item → List ℕ
line (Ok entry) = line_of entry.offset (sentence entry.instruction)
line (Err fault) = line_of fault.offset (fault_told (number fault.cause) (reason fault.cause))
