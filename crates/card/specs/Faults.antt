-- The faults of a card. Assumes nothing.
use Rattle.std.specs.Prelude.{ℕ}
use Rattle.book.specs.declared.faults.Cause.{Cause}
use Rattle.book.specs.declared.faults.Cause.TheVariants as book
use Rattle.book.specs.declared.faults.Fault.{Fault}
use Rattle.card.specs.declared.faults.CardCause.{CardCause}
use Rattle.card.specs.declared.faults.CardCause.TheVariants.{UnknownByte, CutOff, OutOfPlace, OutOfLimits, TooLong}
use Rattle.card.specs.declared.faults.CardFault.{CardFault}

abbrev pub number : CardCause → ℕ
number UnknownByte = 20
number CutOff = 21
number OutOfPlace = 22
number OutOfLimits = 23
number TooLong = 24

-- a reader's fault is the card's, whole
abbrev pub cause_of : Cause → CardCause
cause_of book.UnknownByte = UnknownByte
cause_of book.CutOff = CutOff
cause_of book.TooLong = TooLong

abbrev pub from_book : Fault → CardFault
from_book fault = record { cause = cause_of fault.cause; offset = fault.offset }
