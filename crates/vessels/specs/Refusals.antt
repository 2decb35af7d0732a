-- The number of each refusal, and the step that it names. Assumes nothing.
use Rattle.std.specs.Prelude.{ℕ, Some, None, Ok, Err, Option, Result}
use Rattle.vessels.specs.declared.refusals.Refusal.{Refusal}
use Rattle.vessels.specs.declared.refusals.Refusal.TheVariants.{TooShort, NoVessel}

abbrev pub refusal_number : Refusal → ℕ
refusal_number TooShort = 30
refusal_number (NoVessel step) = 40

abbrev pub refusal_step : Refusal → Option ℕ
refusal_step TooShort = None
refusal_step (NoVessel step) = Some step

-- A result as it is told: nothing, or the number of the refusal and the step that it names.
abbrev pub told : Result (Unit {0}) Refusal → Option (ℕ × Option ℕ)
told (Ok done) = None
told (Err refusal) = Some (refusal_number refusal, refusal_step refusal)
