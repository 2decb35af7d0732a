-- The number of each refusal. Assumes nothing.
use Rattle.std.specs.Prelude.{ℕ}
use Rattle.book.specs.declared.faults.Cause.{Cause}
use Rattle.book.specs.declared.faults.Cause.TheVariants.{UnknownByte, CutOff, TooLong}

abbrev pub number : Cause → ℕ
number UnknownByte = 20
number CutOff = 21
number TooLong = 24
