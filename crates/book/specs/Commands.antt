-- The format of a book: what each command says, and the bytes that spell it. Assumes nothing.
use Rattle.std.specs.Prelude.{ℕ, ◌+◌, ◌*◌, cond, List, length, take, drop, Ok, Err, Result, ◌==◌, nat_le, slice_index}
use Rattle.book.specs.declared.commands.Command.{Command}
use Rattle.book.specs.declared.commands.Command.TheVariants as code
use Rattle.book.specs.declared.faults.Cause.{Cause}
use Rattle.book.specs.declared.faults.Cause.TheVariants.{UnknownByte, CutOff}

-- A command as a value: its operands, and a step's name as the bytes themselves instead of a place in some book.
-- A rule's u and v are step numbers; a carry says how many brews later the step v is meant.
pub data Instruction : Type 0 where
  add_step : (step duration kind : ℕ) (name : List ℕ) → Instruction
  remove_step : (step : ℕ) → Instruction
  set_duration : (step duration : ℕ) → Instruction
  put_after : (rule u v gap carry : ℕ) → Instruction
  put_within : (rule u v hours : ℕ) → Instruction
  put_at : (rule v hour : ℕ) → Instruction
  remove_rule : (rule : ℕ) → Instruction
  set_period : (period : ℕ) → Instruction
  set_span : (span : ℕ) → Instruction
  set_vessels : (kind count : ℕ) → Instruction

-- what a command of the code says
abbrev pub said : Command → Instruction
said (code.AddStep step duration kind name) = add_step step duration kind name.now
said (code.RemoveStep step) = remove_step step
said (code.SetDuration step duration) = set_duration step duration
said (code.After rule u v gap carry) = put_after rule u v gap carry
said (code.Within rule u v hours) = put_within rule u v hours
said (code.At rule v hour) = put_at rule v hour
said (code.RemoveRule rule) = remove_rule rule
said (code.SetPeriod period) = set_period period
said (code.SetSpan span) = set_span span
said (code.SetVessels kind count) = set_vessels kind count

-- How many bytes a command takes, its own byte included: one for each operand, two where the operand counts hours,
-- and eight for a name.
abbrev pub width : Instruction → ℕ
width (add_step step duration kind name) = 13
width (remove_step step) = 2
width (set_duration step duration) = 4
width (put_after rule u v gap carry) = 7
width (put_within rule u v hours) = 6
width (put_at rule v hour) = 5
width (remove_rule rule) = 2
width (set_period period) = 3
width (set_span span) = 3
width (set_vessels kind count) = 3

-- the two bytes at a place as one number, high byte first
abbrev pub pair : List ℕ → ℕ → ℕ
pair bs place = slice_index bs place * 256 + slice_index bs (place + 1)

-- an instruction, if as many bytes as it takes are there
abbrev pub whole : List ℕ → Instruction → Result Instruction Cause
whole bs i = cond (nat_le (width i) (length bs)) (Ok i) (Err CutOff)

-- the command that a byte opens, its operands taken from their places behind it
abbrev pub opened_by : ℕ → List ℕ → Result Instruction Cause
opened_by byte bs =
    cond (byte == 0x01) (whole bs (add_step (slice_index bs 1) (pair bs 2) (slice_index bs 4) (take 8 (drop 5 bs))))
    (cond (byte == 0x02) (whole bs (remove_step (slice_index bs 1)))
    (cond (byte == 0x03) (whole bs (set_duration (slice_index bs 1) (pair bs 2)))
    (cond (byte == 0x04) (whole bs (put_after (slice_index bs 1) (slice_index bs 2) (slice_index bs 3) (pair bs 4) (slice_index bs 6)))
    (cond (byte == 0x05) (whole bs (put_within (slice_index bs 1) (slice_index bs 2) (slice_index bs 3) (pair bs 4)))
    (cond (byte == 0x06) (whole bs (put_at (slice_index bs 1) (slice_index bs 2) (pair bs 3)))
    (cond (byte == 0x07) (whole bs (remove_rule (slice_index bs 1)))
    (cond (byte == 0x08) (whole bs (set_period (pair bs 1)))
    (cond (byte == 0x09) (whole bs (set_span (pair bs 1)))
    (cond (byte == 0x0A) (whole bs (set_vessels (slice_index bs 1) (slice_index bs 2)))
    (Err UnknownByte))))))))))

-- The command at the front of some bytes. They are cut off where they end before the command does, and so are no
-- bytes at all.
abbrev pub decoded : List ℕ → Result Instruction Cause
decoded bs = cond (length bs == 0) (Err CutOff) (opened_by (slice_index bs 0) bs)

-- a decoder's answer, with what its command says
abbrev pub answered : Result Command Cause → Result Instruction Cause
answered (Ok c) = Ok (said c)
answered (Err cause) = Err cause
