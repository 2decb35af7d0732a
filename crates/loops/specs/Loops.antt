-- The loop that leaves a sheet without a lawful timetable. Assumes nothing.
use Rattle.std.specs.Prelude.{◌≡◌, ℕ, ◌<◌, ◌⊎◌, List, ◌++◌, map, length, drop, pos, ◌≤ℤ◌, Some, None, Option, Ok, Err, Result}
use Rattle.sheet.specs.Links.{Loop, run_weight}
use Rattle.sheet.specs.Sheets.{RuleSheet}
use Rattle.sheet.specs.Timetables.{Timetable, Lawful}
use Rattle.sheet.specs.declared.forms.Link.{Link}
use Rattle.loops.specs.declared.refusals.LoopRefusal.{LoopRefusal}
use Rattle.loops.specs.declared.refusals.LoopRefusal.TheVariants.{TooShort, NoTimetable}
use Rattle.loops.specs.declared.refusals.TooShort.{TooShort as ShortBuffer}

-- The number of a refusal: 30 for a buffer that is too short, 14 for a loop.
abbrev pub refusal_number : LoopRefusal → ℕ
refusal_number TooShort = 30
refusal_number (NoTimetable count) = 14

abbrev pub codes_of : List Link → List ℕ
codes_of links = map (λ l. l.code) links

-- The codes of one loop of the sheet that weighs at least 1 stand in order at the front of the buffer; what lies
-- behind them stays. Which loop it is, and with which link it begins, is free.
pub record LoopWritten (s : RuleSheet) (before after : List ℕ) (count : ℕ) : Type 0 where
  pub links : List Link
  pub loop : Loop s links
  pub heavy : pos 1 ≤ℤ run_weight s.period links
  pub counted : count ≡ length links
  pub written : after ≡ codes_of links ++ drop count before

-- Of a buffer for a working chart, what lies behind the chart's 1,024 entries is as it was.
abbrev pub RestKept : {E : Type 0} → List E → List E → Type 0
RestKept before after = drop 1024 after ≡ drop 1024 before

-- The answer to a search for such a loop: how many codes were written. One is found exactly if the sheet has no lawful
-- timetable. Without one the buffer for codes stays as it was, and buffers that are too short are all left as they were.
abbrev pub Searched : {E : Type 0} → RuleSheet → List E → List E → List ℕ → List ℕ
    → Result (Option ℕ) ShortBuffer → Type 0
Searched s cells cells_after codes codes_after (Err short) =
    ((length cells < 1024) ⊎ (length codes < 32)) × (cells_after ≡ cells) × (codes_after ≡ codes)
Searched s cells cells_after codes codes_after (Ok None) =
    ∥ ((t : Timetable) × Lawful s t) ∥₁ × RestKept cells cells_after × (codes_after ≡ codes)
Searched s cells cells_after codes codes_after (Ok (Some count)) =
    RestKept cells cells_after × LoopWritten s codes codes_after count
