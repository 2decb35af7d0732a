-- Both kinds of entry tell hours. Assumes nothing.
use Rattle.std.proofs.Common.{◌≡◌, pos, ◌≤ℤ◌, refl, inl, inr, arith}
use Rattle.std.proofs.lemmas.Int.{ints, by_lt_z}
use Rattle.kinds.specs.declared.together.Counted.{Counted}
use Rattle.kinds.specs.Alone.{no_hours, hours_sum, HoursUnder, link_hours}
use Rattle.kinds.specs.Together.{no_link, counted_sum, RanksUnder, one_link}
use Rattle.kinds.proofs.Measures.{Measures}

pub hours_alone : Measures no_hours hours_sum HoursUnder link_hours (λ x. x.hours)
hours_alone =
    record {
      nothing = refl;
      adds = λ x y. refl;
      ranks = λ x y h. h;
      weighs = λ period l. refl;
      beaten = λ x beats. by_lt_z (pos 0) x.hours (λ h. omega (arith, ints)) (λ h. absurd (beats h));
    }

pub ranks_hours : (x y : Counted) → RanksUnder x y → x.hours ≤ℤ y.hours
ranks_hours x y (inl h) = omega (arith, ints)
ranks_hours x y (inr h) = let e = h.0 in omega (arith, ints)

some_hours : (x : Counted) → (RanksUnder x no_link → ⊥) → pos 1 ≤ℤ x.hours
some_hours x beats =
    by_lt_z (pos 0) x.hours (λ h. omega (arith, ints))
    (λ h.
    by_lt_z x.hours (pos 0) (λ k. absurd (beats (inl k)))
    (λ k. let e : x.hours ≡ pos 0 = omega (arith, ints) in absurd (beats (inr (e, omega arith)))))

pub hours_together : Measures no_link counted_sum RanksUnder one_link (λ x. x.hours)
hours_together =
    record {
      nothing = refl;
      adds = λ x y. refl;
      ranks = ranks_hours;
      weighs = λ period l. refl;
      beaten = some_hours;
    }
