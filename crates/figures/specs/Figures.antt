-- The figures of the worked example, each as the definitions give it. Assumes nothing.
use Rattle.std.specs.Prelude.{◌≡◌, ℕ, List, [], ◌∷◌, replicate, pos, neg_ℤ, ◌≤ℤ◌, Some, None}
use Rattle.loops.specs.Loops.{codes_of}
use Rattle.sheet.specs.declared.forms.Link.{Link}
use Rattle.sheet.specs.Layers.{at_period}
use Rattle.sheet.specs.Links.{Loop, run_weight}
use Rattle.sheet.specs.Sheets.{RuleSheet}
use Rattle.sheet.specs.Timetables.{Timetable, Lawful}
use Rattle.sheet.specs.Waits.{IsWait, IsBound}
use Rattle.choose.specs.Choosing.{earliest, least_crowded}
use Rattle.plan.specs.Plans.{Settled}
use Rattle.vessels.specs.Vessels.{all, missing}
use Rattle.windows.specs.Placing.{placed_at}
use Rattle.figures.specs.Example.{brew, brew_within, brew_beside, no_brew, one_of_each, started, in_first_vessels}

-- The sheet has a lawful timetable.
abbrev pub Accepted : RuleSheet → Type 0
Accepted s = ∥ ((t : Timetable) × Lawful s t) ∥₁

-- The sheet has no lawful timetable.
abbrev pub Refused : RuleSheet → Type 0
Refused s = (t : Timetable) → Lawful s t → ⊥

-- The sheet has no lawful timetable; some loop weighs at least 1, and every loop that does has these codes.
pub record RefusedBy (s : RuleSheet) (codes : List ℕ) : Type 0 where
  pub refused : Refused s
  pub links : List Link
  pub loop : Loop s links
  pub heavy : pos 1 ≤ℤ run_weight s.period links
  pub only : (ls : List Link) → Loop s ls → pos 1 ≤ℤ run_weight s.period ls → codes_of ls ≡ codes

pub record Figures : Type 0 where
  -- the crop starts at hour 26 or later
  pub before_crop : IsWait brew 0 3 (pos 26)
  -- and at hour 56 or sooner
  pub after_crop : IsWait brew 3 0 (neg_ℤ (pos 56))
  -- the ferment starts at most 42 hours before the crop
  pub crop_to_ferment : IsWait brew 3 2 (neg_ℤ (pos 42))
  -- a brew can start every 20 hours, for the ferment takes its vessel so long
  pub bound : IsBound brew 20
  pub period_20 : Accepted (at_period brew 20)
  -- the turn of step 2, the ferment, is in the way
  pub period_19 : RefusedBy (at_period brew 19) (402 ∷ [])
  -- mash and ferment take 26 hours
  pub within_26 : Accepted (brew_within 26)
  pub within_25 : Refused (brew_within 25)
  -- earliest starts the three steps at the hours 0, 6 and 26
  pub by_earliest : Settled brew earliest one_of_each (started (replicate 28 None)) (all (in_first_vessels (replicate 28 0)))
  pub bound_of_none : IsBound no_brew 1
  -- earliest starts a step 4 of 6 hours at hour zero, while the ferment of the brew before holds the only vessel
  pub six_beside : Settled (brew_beside 6) earliest one_of_each (started (Some (placed_at 0 6 1) ∷ replicate 27 None)) (missing 4)
  -- least crowded starts a step 4 of 4 hours at hour 2, in the vessel that the ferment has left
  pub four_beside : Settled (brew_beside 4) least_crowded one_of_each (started (Some (placed_at 2 4 1) ∷ replicate 27 None)) (all (in_first_vessels (1 ∷ replicate 27 0)))
