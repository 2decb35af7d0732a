-- From steps filled in to a plan written. Assumes nothing.
use Rattle.std.proofs.Common.{◌≡◌, ℕ, ◌<◌, List, ◌++◌, length, get_or, drop, is_some, Some, None, Err, Option, unwrap_or, sym, refl, ap, ◌∙◌, subst, arith}
use Rattle.std.proofs.lemmas.List.{length-map, get_or-map, ext_get_or}
use Rattle.std.proofs.lemmas.Bool.{true≢false, false≢true}
use Rattle.choose.specs.Choosing.{HourRule}
use Rattle.plan.specs.Plans.{written_start, start_hours, Settled, Written, Wrote}
use Rattle.sheet.specs.Sheets.{RuleSheet}
use Rattle.sheet.specs.Timetables.{Lawful}
use Rattle.vessels.proofs.Outcomes.{outcome_only}
use Rattle.vessels.specs.Refusals.{told}
use Rattle.vessels.specs.Replies.{reply, left_in, Settled as SharedOut}
use Rattle.vessels.specs.Vessels.{at, Outcome, all, missing, AllNumbered, GivesOut}
use Rattle.vessels.specs.declared.placed.Placed.{Placed}
use Rattle.vessels.specs.declared.refusals.Refusal.{Refusal}
use Rattle.vessels.specs.declared.refusals.Refusal.TheVariants.{TooShort as Short, NoVessel as Lacks}
use Rattle.brews.specs.Brews.{HeldOnce}
use Rattle.windows.specs.Placing.{Filled, starts as starts_of}
use Rattle.windows.proofs.Course.{filled_unique}

-- start hours read place by place
pub hours_are : (placed : List (Option Placed)) (hours : List ℕ) → length placed ≡ 31 → length hours ≡ 31 → ((i : ℕ) → i < 31 → get_or hours i 0 ≡ written_start (at placed i)) → hours ≡ start_hours placed
hours_are placed hours long as_long each =
    ext_get_or 0 hours (start_hours placed) (as_long ∙ sym (length-map placed written_start ∙ long))
    (λ i low.
    let inside : i < 31 = omega arith in
    each i inside ∙ sym (get_or-map written_start placed i None 0 (omega arith)))

pub settled : (s : RuleSheet) (rule : HourRule) (stock : List ℕ) (placed : List (Option Placed)) (outcome : Outcome) → Filled s rule placed → GivesOut s.period stock placed outcome → Settled s rule stock placed outcome
settled s rule stock placed outcome filled gives = record {
  filled = filled;
  by_rule = gives;
  only = λ others other also by.
      let same = filled_unique s rule others placed also filled in
      (same, outcome_only s.period stock placed other outcome (subst (λ p. GivesOut s.period stock p other) same by) gives);
}

module _ (s : RuleSheet) (rule : HourRule) (stock : List ℕ) (placed : List (Option Placed)) (filled : Filled s rule placed) (starts starts_after vessels vessels_after : List ℕ) where
  pub wrote_all : Lawful s (starts_of placed) → ((numbers : List ℕ) → AllNumbered s.period stock placed numbers → HeldOnce s.period placed numbers) → SharedOut s.period stock placed vessels None vessels_after → starts_after ≡ start_hours placed ++ drop 31 starts → Written s rule stock starts starts_after vessels vessels_after
  wrote_all lawful once gave written = by gave.outcome gave.by_rule gave.answers gave.leaves
    where
      by : (outcome : Outcome) → GivesOut s.period stock placed outcome → None ≡ reply outcome → vessels_after ≡ left_in outcome vessels → Written s rule stock starts starts_after vessels vessels_after
      by (all numbers) gives answers leaves = record {
        placed = placed;
        numbers = numbers;
        settled = settled s rule stock placed (all numbers) filled gives;
        lawful = lawful;
        once = once numbers gives;
        starts_written = written;
        vessels_written = leaves;
      }
      by (missing step) gives answers leaves = absurd (false≢true (ap is_some answers))

  pub wrote_none : (refusal : Refusal) → SharedOut s.period stock placed vessels (told (Err refusal)) vessels_after → Wrote s rule stock starts starts vessels vessels_after (Err refusal)
  wrote_none refusal gave = by refusal gave.outcome gave.by_rule gave.answers gave.leaves
    where
      step_of : Option (ℕ × Option ℕ) → ℕ
      step_of None = 0
      step_of (Some answer) = unwrap_or answer.1 0

      number_of : Option (ℕ × Option ℕ) → ℕ
      number_of None = 0
      number_of (Some answer) = answer.0

      by : (refusal : Refusal) (outcome : Outcome) → GivesOut s.period stock placed outcome → told (Err refusal) ≡ reply outcome → vessels_after ≡ left_in outcome vessels → Wrote s rule stock starts starts vessels vessels_after (Err refusal)
      by refusal (all numbers) gives answers leaves = absurd (true≢false (ap is_some answers))
      by Short (missing step) gives answers leaves =
          let numbers : ◌≡◌ {A = ℕ} 30 40 = ap number_of answers in
          absurd (omega arith)
      by (Lacks told_step) (missing step) gives answers leaves =
          let same : step ≡ told_step = sym (ap step_of answers) in
          record {
            placed = placed;
            settled = settled s rule stock placed (missing told_step) filled (subst (λ n. GivesOut s.period stock placed (missing n)) same gives);
            starts_kept = refl;
            vessels_kept = leaves;
          }
