-- Timetables, and which of them are lawful for a sheet. Assumes nothing.
use Rattle.std.specs.Prelude.{◌≡◌, ℕ, zero, suc, ◌+◌, ◌*◌, ◌≤◌, ℤ, pos, ◌+ℤ◌, ◌≤ℤ◌, is_some, Option}
use Rattle.std.specs.Option.{unwrap_or}
use Rattle.sheet.specs.declared.forms.Rule.{Rule}
use Rattle.sheet.specs.declared.forms.Rule.TheVariants.{Free, After, Within, At}
use Rattle.sheet.specs.Sheets.{RuleSheet, rule_at, has_step, HasStep, duration}

-- A timetable gives a whole start hour to some steps. The hour is signed, so that 'not before hour zero' says something.
abbrev pub Timetable : Type 0
Timetable = ℕ → Option ℤ

-- The start at a place: hour zero at place 0, and the start hour of step n at place n. Where the timetable gives step n
-- none, hour zero stands for it; a lawful timetable has a start for each step that a sound sheet's rules name, so this
-- decides nothing.
abbrev pub start : Timetable → ℕ → ℤ
start t zero = pos 0
start t (suc n) = unwrap_or (t (suc n)) (pos 0)

-- The steps with a start hour are exactly the steps of the sheet.
abbrev pub Covers : RuleSheet → Timetable → Type 0
Covers s t = (n : ℕ) → is_some (t n) ≡ has_step s n

-- What a rule asks of the starts. After: v, carry periods later, starts no sooner than gap hours after u has ended; so
-- a carry lets v belong to a later brew than u. Within: v starts at most so many hours after u. At: v starts at that hour.
abbrev pub Obeys : RuleSheet → Timetable → Rule → Type 0
Obeys s t Free = Unit {0}
Obeys s t (After u v gap carry) =
    (start t u +ℤ pos (duration s u + gap)) ≤ℤ (start t v +ℤ pos (carry * s.period))
Obeys s t (Within u v hours) = start t v ≤ℤ (start t u +ℤ pos hours)
Obeys s t (At v hour) = start t v ≡ pos hour

pub record Lawful (s : RuleSheet) (t : Timetable) : Type 0 where
  -- it gives a start to exactly the sheet's steps
  pub covers : Covers s t
  -- no step starts before hour zero
  pub from_zero : (n : ℕ) → HasStep s n → pos 0 ≤ℤ start t n
  -- each step ends within the span
  pub in_span : (n : ℕ) → HasStep s n → (start t n +ℤ pos (duration s n)) ≤ℤ pos s.span
  -- no step takes longer than the period
  pub in_period : (n : ℕ) → HasStep s n → duration s n ≤ s.period
  -- every rule holds
  pub rules : (r : ℕ) → Obeys s t (rule_at s r)
