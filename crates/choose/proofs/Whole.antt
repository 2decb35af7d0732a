-- From one round of classes to the whole window. Assumes nothing.
use Rattle.std.proofs.Common.{◌≡◌, ℕ, ◌+◌, ◌-◌, ◌%◌, ◌<◌, ◌≤◌, min, max, List, length, sym, ap, ◌∙◌, subst, ⊎_elim, mod-lt, arith}
use Rattle.std.proofs.lemmas.Bool.{cases_lt}
use Rattle.choose.specs.Calmest.{Calmest, Exactly, IsLeastCrowded, least_crowded_hour, peak_in}
use Rattle.choose.specs.Classes.{peak}
use Rattle.choose.specs.Views.{View}
use Rattle.choose.proofs.Calm.{calmest_one, calmest_stays, calmest_alike, calmest_only, calmest_of}
use Rattle.choose.proofs.Rounds.{peak_again, peak_cut, peak_empty}

module _ (crowd : List ℕ) where
  -- an hour beyond the first round has the peak of one within it
  one_round : (n from until later hour : ℕ) → 0 < length crowd → Calmest (peak crowd n) from until hour → until ≤ later → (until < later → from + length crowd ≤ until) → Calmest (peak crowd n) from later hour
  one_round n from until later hour some best longer round =
      calmest_stays later best longer
      (λ h low high.
      let inside : (h - from) % length crowd < length crowd = mod-lt (h - from) some in
      let full : from + length crowd ≤ until = round (omega arith) in
      let same : from + (h - from) ≡ h = omega arith in
      omega (arith, peak_again crowd n from (h - from), ap (peak crowd n) same, best.smallest (from + (h - from) % length crowd) (omega arith) (omega arith)))

  cut_alike : (n : ℕ) → 0 < length crowd → (h : ℕ) → peak crowd (min (length crowd) n) h ≡ peak crowd n h
  cut_alike n some h =
      ⊎_elim
      (λ short. let same : min (length crowd) n ≡ n = omega arith in ap (λ m. peak crowd m h) same)
      (λ long. let same : min (length crowd) n ≡ length crowd = omega arith in ap (λ m. peak crowd m h) same ∙ sym (peak_cut crowd n h some long))
      (cases_lt n (length crowd))

-- what one round of classes tells, with the duration cut to a round, holds of the whole window
pub whole_window : (v : View) (duration hours hour : ℕ) → 0 < length v.crowd → duration ≡ min (length v.crowd) v.duration → hours ≡ min (max v.first v.last - v.first + 1) (length v.crowd) → Calmest (peak v.crowd duration) v.first (v.first + hours) hour → IsLeastCrowded v hour
whole_window v duration hours hour some cut few best =
    one_round v.crowd v.duration v.first (v.first + hours) (max v.first v.last + 1) hour some
    (calmest_alike (λ h. ap (λ m. peak v.crowd m h) cut ∙ cut_alike v.crowd v.duration some h) best)
    (omega arith)
    (λ more. omega arith)

-- where no class is shown the first hour is as calm as any
pub no_classes : (v : View) → length v.crowd ≡ 0 → IsLeastCrowded v v.first
no_classes v none =
    calmest_stays (max v.first v.last + 1) (calmest_one v.first) (omega arith)
    (λ h low high. omega (arith, peak_empty v.crowd v.duration v.first none, peak_empty v.crowd v.duration h none))

-- the least crowded hour is the one that is worked out
pub least_crowded_is : (v : View) → IsLeastCrowded v (least_crowded_hour v)
least_crowded_is v = let P : ℕ → Type 0 = λ u. Calmest (peak_in v) v.first u (least_crowded_hour v) in
    let ends : v.first + (v.last - v.first) + 1 ≡ max v.first v.last + 1 = omega arith in
    subst P ends (calmest_of v.first (v.last - v.first))

pub least_crowded_only : (v : View) (hour : ℕ) → IsLeastCrowded v hour → Exactly (IsLeastCrowded v) hour
least_crowded_only v hour best = record {
  holds = best;
  only = λ h other. calmest_only h hour other best;
}
