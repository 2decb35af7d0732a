-- What a chooser is shown, as a value. Assumes nothing.
use Rattle.std.specs.Prelude.{ℕ, List}
use Rattle.choose.specs.declared.shown.Shown.{Shown}

-- The counts are themselves here, instead of a place in some caller's memory.
pub record View : Type 0 where
  pub step : ℕ
  pub duration : ℕ
  pub first : ℕ
  pub last : ℕ
  pub crowd : List ℕ

abbrev pub seen : Shown → View
seen s = record { step = s.step; duration = s.duration; first = s.first; last = s.last; crowd = s.crowd.now }
