-- What is proved of vessels over all brews. Assumes nothing.
use Rattle.std.specs.Prelude.{ℕ, List, ℤ, Option}
use Rattle.brews.specs.Brews.{HeldOnce, InPeriod}
use Rattle.choose.specs.Choosing.{HourRule}
use Rattle.sheet.specs.Limits.{Sound}
use Rattle.sheet.specs.Sheets.{RuleSheet}
use Rattle.sheet.specs.Timetables.{Lawful}
use Rattle.sheet.specs.Waits.{IsChart}
use Rattle.vessels.specs.Vessels.{AllNumbered}
use Rattle.vessels.specs.declared.placed.Placed.{Placed}
use Rattle.windows.specs.Placing.{starts, Filled}

-- Where each step has the vessel due to it and none takes longer than the period, no vessel is held twice over all
-- brews. None of the steps that a chooser's rule fills in on a sound sheet takes longer; so no plan has a vessel held
-- twice. And where the sheet has a wait chart, the starts of those steps are a lawful timetable.
pub record VesselsHeldOnce : Type 0 where
  pub numbered : (period : ℕ) (stock : List ℕ) (placed : List (Option Placed)) (numbers : List ℕ)
      → InPeriod period placed
      → AllNumbered period stock placed numbers
      → HeldOnce period placed numbers
  pub filled : (s : RuleSheet) → Sound s → (rule : HourRule) (placed : List (Option Placed))
      → Filled s rule placed
      → InPeriod s.period placed
  pub planned : (s : RuleSheet) → Sound s → (rule : HourRule) (stock : List ℕ) (placed : List (Option Placed)) (numbers : List ℕ)
      → Filled s rule placed
      → AllNumbered s.period stock placed numbers
      → HeldOnce s.period placed numbers
  pub lawful : (s : RuleSheet) → Sound s → (chart : List ℤ) → IsChart s chart → (rule : HourRule) (placed : List (Option Placed))
      → Filled s rule placed
      → Lawful s (starts placed)
