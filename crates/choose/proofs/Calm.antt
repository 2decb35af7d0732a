-- The calmest hour of a run of hours. Assumes nothing.
use Rattle.std.proofs.Common.{◌≡◌, ℕ, zero, suc, ◌+◌, ◌<◌, ◌≤◌, ltb, ap, subst, ⊎_elim, le_refl, arith}
use Rattle.std.proofs.lemmas.Bool.{cases_lt, cases_order, cond_both, ltb-true, ltb-false}
use Rattle.choose.specs.Calmest.{Calmest, calmest}

module _ {peaks : ℕ → ℕ} where
  -- of one hour
  pub calmest_one : (from : ℕ) → Calmest peaks from (from + 1) from
  calmest_one from = record {
    not_before = le_refl from;
    not_after = omega arith;
    smallest = λ h low high. let same : from ≡ h = omega arith in omega (arith, ap peaks same);
    earliest = λ h low high. absurd (omega arith);
  }

  -- hours that follow and are no calmer change nothing
  pub calmest_stays : {from until hour : ℕ} (later : ℕ) → Calmest peaks from until hour → until ≤ later → ((h : ℕ) → until ≤ h → h < later → peaks hour ≤ peaks h) → Calmest peaks from later hour
  calmest_stays {from} {until} {hour} later best longer none = record {
    not_before = best.not_before;
    not_after = omega (arith, best.not_after);
    smallest = λ h low high. ⊎_elim (λ before. best.smallest h low before) (λ after. none h after high) (cases_lt h until);
    earliest = best.earliest;
  }

  -- the next hour is calmer
  pub calmest_moves : {from until hour : ℕ} → Calmest peaks from until hour → peaks until < peaks hour → Calmest peaks from (until + 1) until
  calmest_moves {from} {until} {hour} best calmer = record {
    not_before = omega (arith, best.not_before, best.not_after);
    not_after = omega arith;
    smallest = λ h low high.
        ⊎_elim (λ before. omega (arith, best.smallest h low before)) (λ after. let same : until ≡ h = omega arith in omega (arith, ap peaks same)) (cases_lt h until);
    earliest = λ h low high. omega (arith, best.smallest h low high);
  }

  -- the calmest hour of a run lies in a front of it
  pub calmest_front : {from until hour : ℕ} (front : ℕ) → Calmest peaks from until hour → hour < front → front ≤ until → Calmest peaks from front hour
  calmest_front {from} {until} {hour} front best inside shorter = record {
    not_before = best.not_before;
    not_after = inside;
    smallest = λ h low high. best.smallest h low (omega arith);
    earliest = best.earliest;
  }

  pub calmest_only : {from until : ℕ} (a b : ℕ) → Calmest peaks from until a → Calmest peaks from until b → a ≡ b
  calmest_only a b x y =
      ⊎_elim
      (λ same. same)
      (⊎_elim
      (λ less. absurd (omega (arith, y.earliest a x.not_before less, x.smallest b y.not_before y.not_after)))
      (λ more. absurd (omega (arith, x.earliest b y.not_before more, y.smallest a x.not_before x.not_after))))
      (cases_order a b)

  pub calmest_of : (from n : ℕ) → Calmest peaks from (from + n + 1) (calmest peaks from n)
  unfolding calmest
  calmest_of from zero = let P : ℕ → Type 0 = λ u. Calmest peaks from u from in subst P (omega arith) (calmest_one from)
  calmest_of from (suc n) =
      let sofar = calmest_of from n in
      let next : from + n + 1 ≡ from + suc n = omega arith in
      let At : ℕ → Type 0 = λ u. Calmest peaks from u (calmest peaks from n) in
      let before : Calmest peaks from (from + suc n) (calmest peaks from n) = subst At next sofar in
      cond_both (ltb (peaks (from + suc n)) (peaks (calmest peaks from n))) (from + suc n) (calmest peaks from n)
      (λ h. Calmest peaks from (from + suc n + 1) h)
      (λ yes. calmest_moves before (ltb-true _ _ yes))
      (λ no. calmest_stays _ before (omega arith) (λ h low high. let same : from + suc n ≡ h = omega arith in omega (arith, ap peaks same, ltb-false (peaks (from + suc n)) (peaks (calmest peaks from n)) no)))

-- the same hour by peaks that are the same
pub calmest_alike : {p q : ℕ → ℕ} {from until hour : ℕ} → ((h : ℕ) → p h ≡ q h) → Calmest p from until hour → Calmest q from until hour
calmest_alike {p} {q} {from} {until} {hour} alike best = record {
  not_before = best.not_before;
  not_after = best.not_after;
  smallest = λ h low high. omega (arith, alike hour, alike h, best.smallest h low high);
  earliest = λ h low high. omega (arith, alike hour, alike h, best.earliest h low high);
}
