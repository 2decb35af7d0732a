-- Every card stands for a sheet that keeps the limits. Assumes nothing.
use Rattle.std.specs.Prelude.{◌≡◌, ℕ, Bool, true, false, cond, List, [], ◌∷◌, length, Some, None, Ok, Err, Option, Result, nat_le, refl}
use Rattle.std.proofs.Common.{arith}
use Rattle.book.specs.Reading.{Item, Placed}
use Rattle.book.specs.Walks.{items}
use Rattle.changes.proofs.Kept.{asked_sound, empty_sound}
use Rattle.changes.specs.Changes.{asked}
use Rattle.changes.specs.Tests.{in_limits, has}
use Rattle.sheet.specs.Edits.{empty_sheet}
use Rattle.sheet.specs.Limits.{FullSound, SoundSheet}
use Rattle.sheet.specs.Sheets.{rule_sheet}
use Rattle.sheet.specs.declared.forms.Sheet.{Sheet}
use Rattle.card.specs.Cards.{Verdict, ended, in_place, ruling, by_ruling, fault_at, judged, verdict, sheet_of}
use Rattle.card.specs.Order.{subject, place_after}
use Rattle.card.specs.declared.faults.CardCause.TheVariants.{TooLong}
use Rattle.card.specs.declared.faults.CardFault.{CardFault}
use Rattle.card.specs.declared.order.Stage.{Stage}
use Rattle.card.specs.declared.order.Stage.TheVariants.{Period, Span, Steps, Rules}

ended_sound : (end : ℕ) (stage : Stage) (sheet : Sheet) → FullSound sheet → FullSound (sheet_of (ended end stage sheet))
ended_sound end Period sheet ok = empty_sound
ended_sound end Span sheet ok = empty_sound
ended_sound end (Steps last) sheet ok = ok
ended_sound end (Rules last) sheet ok = ok

-- a command that is let through keeps the limits
passed : (o : Option Stage) (offset : ℕ) (fits : Bool) (later : Stage) → in_place o offset fits ≡ Ok later → fits ≡ true
passed None offset fits later e = let no : ◌≡◌ {A = ℕ} 0 1 = cc in absurd (omega arith)
passed (Some s) offset true later e = refl
passed (Some s) offset false later e = let no : ◌≡◌ {A = ℕ} 0 1 = cc in absurd (omega arith)

pub ruling_passed : (stage : Stage) (there : ℕ → Bool) (entry : Placed) (later : Stage) → ruling stage there entry ≡ Ok later → in_limits there entry.instruction ≡ true
ruling_passed stage there entry later = passed (place_after stage (subject entry.instruction)) entry.offset (in_limits there entry.instruction) later

by_ruling_sound : (r : Result Stage CardFault) (rest : Stage → Verdict) → ((later : Stage) → r ≡ Ok later → FullSound (sheet_of (rest later))) → FullSound (sheet_of (by_ruling r rest))
by_ruling_sound (Ok later) rest h = h later refl
by_ruling_sound (Err fault) rest h = empty_sound

judged_sound : (end : ℕ) (stage : Stage) (sheet : Sheet) → FullSound sheet → (items : List Item) → FullSound (sheet_of (judged end stage sheet items))
judged_sound end stage sheet ok [] = ended_sound end stage sheet ok
judged_sound end stage sheet ok (Err fault ∷ items) = empty_sound
judged_sound end stage sheet ok (Ok entry ∷ items) =
    by_ruling_sound (ruling stage (has sheet) entry) (λ later. judged end later (asked sheet entry.instruction) items)
    (λ later e. judged_sound end later (asked sheet entry.instruction) (asked_sound sheet ok entry.instruction (ruling_passed stage (has sheet) entry later e)) items)

by_size_sound : (b : Bool) (v : Verdict) → FullSound (sheet_of v) → FullSound (sheet_of (cond b v (fault_at TooLong 0)))
by_size_sound true v ok = ok
by_size_sound false v ok = empty_sound

pub verdict_sound : (card : List ℕ) → FullSound (sheet_of (verdict card))
unfolding verdict
verdict_sound card = by_size_sound (nat_le (length card) 4096) (judged (length card) Period empty_sheet (items card)) (judged_sound (length card) Period empty_sheet empty_sound (items card))

-- what a card tells as a rule source
abbrev pub card_told : List ℕ → SoundSheet
card_told card = record { told = rule_sheet (sheet_of (verdict card)); sound = (verdict_sound card).rules }
