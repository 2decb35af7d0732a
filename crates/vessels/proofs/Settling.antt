-- What a call for vessels tells. Assumes nothing.
use Rattle.std.proofs.Common.{◌≡◌, ℕ, List, ◌++◌, drop, None, Ok, Err, Option, Result, IsErrAnd, refl}
use Rattle.vessels.specs.Refusals.{told}
use Rattle.vessels.specs.Replies.{IsMissing, Settled}
use Rattle.vessels.specs.Vessels.{all, missing, AllNumbered}
use Rattle.vessels.specs.declared.placed.Placed.{Placed}
use Rattle.vessels.specs.declared.refusals.Refusal.{Refusal}
use Rattle.vessels.specs.declared.refusals.Refusal.TheVariants.{TooShort, NoVessel}
use Rattle.vessels.proofs.Outcomes.{outcome_only}

module _ {period : ℕ} {stock : List ℕ} {placed : List (Option Placed)} where
  pub settled_all : (numbers old new : List ℕ) → AllNumbered period stock placed numbers → new ≡ numbers ++ drop 31 old → Settled period stock placed old None new
  settled_all numbers old new rule written = record {
    outcome = all numbers;
    by_rule = rule;
    only = λ other by. outcome_only period stock placed other (all numbers) by rule;
    answers = refl;
    leaves = written;
  }

  pub settled_missing : (result : Result (Unit {0}) Refusal) (old : List ℕ) → IsErrAnd result (IsMissing period stock placed) → Settled period stock placed old (told result) old
  settled_missing (Ok done) old rule = absurd rule
  settled_missing (Err TooShort) old rule = absurd rule
  settled_missing (Err (NoVessel step)) old rule = record {
    outcome = missing step;
    by_rule = rule;
    only = λ other by. outcome_only period stock placed other (missing step) by rule;
    answers = refl;
    leaves = refl;
  }
