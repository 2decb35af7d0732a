-- The windows with nothing placed. Assumes nothing.
use Rattle.std.proofs.Common.{◌≡◌, ℕ, List, ℤ, neg_ℤ, is_some, Some, None, Option, sym, ap}
use Rattle.std.specs.Option.{option_map}
use Rattle.plan.specs.Told.{Tells}
use Rattle.plan.specs.declared.window.Window.{Window}
use Rattle.sheet.specs.Limits.{SoundSheet}
use Rattle.sheet.specs.Sheets.{HasStep, step_at}
use Rattle.sheet.specs.Waits.{IsChart}
use Rattle.walks.proofs.LinkLaws.{step_present}
use Rattle.windows.specs.Windows.{entry, nothing_placed}
use Rattle.windows.proofs.Narrowing.{open_windows}

-- the window of a step with nothing placed, read off the chart
abbrev pub opened : List ℤ → ℕ → Window
opened chart n = record { first = entry chart 0 n; last = neg_ℤ (entry chart n 0) }

pub tells_opened : (sheet : SoundSheet) (chart : List ℤ) (n : ℕ) (step : Option (ℕ × ℕ)) → IsChart sheet.told chart → step ≡ step_at sheet.told n → Tells sheet.told nothing_placed n (option_map (λ _. opened chart n) step)
tells_opened sheet chart n None is step = ap is_some (sym step)
tells_opened sheet chart n (Some told) is step =
    let there : HasStep sheet.told n = ap is_some (sym step) in
    (there, open_windows sheet.told sheet.sound chart is n (step_present sheet.told n there))
