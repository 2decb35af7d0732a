-- What is proved of two sheets and their wait charts. Assumes nothing.
use Rattle.std.specs.Prelude.{◌≡◌, List, ℤ}
use Rattle.sheet.specs.Limits.{Sound}
use Rattle.sheet.specs.Sheets.{RuleSheet}
use Rattle.sheet.specs.Timetables.{Timetable, Lawful}
use Rattle.sheet.specs.Waits.{IsChart}

-- Two sheets are alike if the same timetables are lawful for both.
abbrev pub Alike : RuleSheet → RuleSheet → Type 0
Alike s u = (t : Timetable) → (Lawful s t → Lawful u t) × (Lawful u t → Lawful s t)

-- Two sound sheets that have wait charts have the same chart exactly if they are alike: a chart tells all that the rules
-- ask for, and no more.
abbrev pub EqualCharts : Type 0
EqualCharts =
    (s u : RuleSheet) → Sound s → Sound u → (a b : List ℤ) → IsChart s a → IsChart u b
    → (a ≡ b → Alike s u) × (Alike s u → a ≡ b)
