-- What a card's bytes come to: a fault with its offset, or a sheet with names. Assumes nothing.
use Rattle.std.specs.Prelude.{ℕ, Bool, cond, List, [], ◌∷◌, length, Some, None, Ok, Err, Option, Result, nat_le}
use Rattle.book.specs.Reading.{Item, Placed}
use Rattle.book.specs.Walks.{items}
use Rattle.changes.specs.Changes.{asked}
use Rattle.changes.specs.Tests.{in_limits, has}
use Rattle.sheet.specs.Edits.{empty_sheet}
use Rattle.sheet.specs.declared.forms.Sheet.{Sheet}
use Rattle.card.specs.Faults.{from_book}
use Rattle.card.specs.Order.{subject, place_after}
use Rattle.card.specs.declared.faults.CardCause.{CardCause}
use Rattle.card.specs.declared.faults.CardCause.TheVariants.{OutOfPlace, OutOfLimits, TooLong}
use Rattle.card.specs.declared.faults.CardFault.{CardFault}
use Rattle.card.specs.declared.order.Stage.{Stage}
use Rattle.card.specs.declared.order.Stage.TheVariants.{Period, Span, Steps, Rules}

pub data Verdict : Type 0 where
  stands_for : Sheet → Verdict
  faulty : CardFault → Verdict

abbrev pub fault_at : CardCause → ℕ → Verdict
fault_at cause place = faulty (record { cause = cause; offset = place })

-- a card that ends before its period or its span lacks a command there
abbrev pub ended : ℕ → Stage → Sheet → Verdict
ended end Period sheet = fault_at OutOfPlace end
ended end Span sheet = fault_at OutOfPlace end
ended end (Steps last) sheet = stands_for sheet
ended end (Rules last) sheet = stands_for sheet

-- One command of a card, at a stage, over the steps that are there: the stage after it, or its fault. That it is out
-- of place is told before that it breaks a limit.
abbrev pub in_place : Option Stage → ℕ → Bool → Result Stage CardFault
in_place None offset fits = Err (record { cause = OutOfPlace; offset = offset })
in_place (Some later) offset fits = cond fits (Ok later) (Err (record { cause = OutOfLimits; offset = offset }))

abbrev pub ruling : Stage → (ℕ → Bool) → Placed → Result Stage CardFault
ruling stage there entry = in_place (place_after stage (subject entry.instruction)) entry.offset (in_limits there entry.instruction)

abbrev pub by_ruling : Result Stage CardFault → (Stage → Verdict) → Verdict
by_ruling (Ok later) rest = rest later
by_ruling (Err fault) rest = faulty fault

-- The items of a card in turn, from a stage and the sheet that the commands before them ask for. The first fault is told.
abbrev pub judged : ℕ → Stage → Sheet → List Item → Verdict
judged end stage sheet [] = ended end stage sheet
judged end stage sheet (Err fault ∷ items) = faulty (from_book fault)
judged end stage sheet (Ok entry ∷ items) = by_ruling (ruling stage (has sheet) entry) (λ later. judged end later (asked sheet entry.instruction) items)

-- A card has at most 4096 bytes, as every book. It starts from an empty planner's sheet, of which it replaces the
-- period and the span.
unfoldable pub verdict : List ℕ → Verdict
verdict card = cond (nat_le (length card) 4096) (judged (length card) Period empty_sheet (items card)) (fault_at TooLong 0)

-- what a check of a card answers
abbrev pub outcome : Verdict → Result (Unit {0}) CardFault
outcome (stands_for sheet) = Ok tt
outcome (faulty fault) = Err fault

-- the sheet that a card stands for; a faulty one stands for an empty planner's
abbrev pub sheet_of : Verdict → Sheet
sheet_of (stands_for sheet) = sheet
sheet_of (faulty fault) = empty_sheet
