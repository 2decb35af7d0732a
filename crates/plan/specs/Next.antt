-- The next step, read off the windows. Assumes nothing.
use Rattle.std.specs.Prelude.{◌≡◌, ℕ, ◌<◌, false, List, ℤ, ◌-ℤ◌, ◌≤ℤ◌, ◌<ℤ◌, is_some, Some, None, Option, MatchOption, slice_index_or}
use Rattle.std.specs.Option.{option_map}
use Rattle.plan.specs.Told.{Told}
use Rattle.plan.specs.declared.next.Candidate.{Candidate}
use Rattle.plan.specs.declared.window.Window.{Window}
use Rattle.sheet.specs.Limits.{Sound}
use Rattle.sheet.specs.Sheets.{RuleSheet}
use Rattle.vessels.specs.Vessels.{at}
use Rattle.vessels.specs.declared.placed.Placed.{Placed}
use Rattle.windows.specs.Placing.{starts}
use Rattle.windows.specs.Windows.{Waiting, IsNext}

-- The slack of a step that waits; none if it is absent or placed.
abbrev pub slack_left : Option Window → Option Placed → Option ℤ
slack_left window (Some step) = None
slack_left window None = option_map (λ w. w.last -ℤ w.first) window

-- The slacks of the steps that wait, by their places.
abbrev pub slacks_left : List (Option Window) → List (Option Placed) → ℕ → Option ℤ
slacks_left windows placed i = slack_left (slice_index_or windows i None) (at placed i)

-- Among the places below a number, one has the least slack, and is the first of those that have it.
pub record Leads (slacks : ℕ → Option ℤ) (until : ℕ) (held : Candidate) : Type 0 where
  pub inside : held.place < until
  pub is : slacks held.place ≡ Some held.slack
  pub fewest : (i : ℕ) → i < until → (hours : ℤ) → slacks i ≡ Some hours → held.slack ≤ℤ hours
  pub first : (i : ℕ) → i < held.place → (hours : ℤ) → slacks i ≡ Some hours → held.slack <ℤ hours

-- The place that leads, or none if none of the places has a slack.
abbrev pub Leader : (ℕ → Option ℤ) → ℕ → Option Candidate → Type 0
Leader slacks until None = (i : ℕ) → i < until → is_some (slacks i) ≡ false
Leader slacks until (Some held) = Leads slacks until held

-- Whatever sheet the windows are told of: the step that is placed next, or none if no step is waiting.
abbrev pub NamesNext : List (Option Window) → List (Option Placed) → Option ℕ → Type 0
NamesNext windows placed r =
    (s : RuleSheet) → Sound s → Told s (starts placed) windows
    → MatchOption r ((n : ℕ) → Waiting s (starts placed) n → ⊥) (IsNext s (starts placed))
