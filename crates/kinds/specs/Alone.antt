-- Hours alone, as a kind of entry. Assumes nothing.
use Rattle.std.specs.Prelude.{ℕ, ◌⊎◌, ℤ, pos, ◌+ℤ◌, ◌≤ℤ◌}
use Rattle.std.proofs.Common.{inl, inr, ap, arith}
use Rattle.std.proofs.lemmas.Int.{ints, by_lt_z}
use Rattle.sheet.specs.declared.forms.Link.{Link}
use Rattle.sheet.specs.Links.{weight}
use Rattle.chart.specs.Laws.{Laws}
use Rattle.kinds.specs.declared.alone.Hours.{Hours}
use Rattle.kinds.specs.Bounds.{HoursWithin, weight_within}

abbrev pub of_hours : ℤ → Hours
of_hours hours = record { hours = hours }

abbrev pub no_hours : Hours
no_hours = of_hours (pos 0)

abbrev pub hours_sum : Hours → Hours → Hours
hours_sum x y = of_hours (x.hours +ℤ y.hours)

-- More hours rank higher.
abbrev pub HoursUnder : Hours → Hours → Type 0
HoursUnder x y = x.hours ≤ℤ y.hours

abbrev pub AloneWithin : ℕ → Hours → Type 0
AloneWithin n x = HoursWithin n x.hours

abbrev pub link_hours : ℕ → Link → Hours
link_hours period l = of_hours (weight period l)

total : (x y : Hours) → HoursUnder x y ⊎ HoursUnder y x
total x y = by_lt_z x.hours y.hours (λ h. inl (omega (arith, ints))) (λ h. inr h)

pub hours_laws : Laws no_hours hours_sum HoursUnder AloneWithin link_hours
hours_laws =
    record {
      left_neutral = λ x. ap of_hours (omega (arith, ints));
      right_neutral = λ x. ap of_hours (omega (arith, ints));
      associative = λ x y z. ap of_hours (omega (arith, ints));
      reflexive = λ x. omega (arith, ints);
      transitive = λ x y z p q. omega (arith, ints);
      antisymmetric = λ x y p q. ap of_hours (omega (arith, ints));
      total = total;
      behind = λ x y z p. omega (arith, ints);
      before = λ x y z p. omega (arith, ints);
      none = (omega (arith, ints), omega (arith, ints));
      more = λ m n x h p. (omega (arith, ints), omega (arith, ints));
      joined = λ m n x y p q. (omega (arith, ints), omega (arith, ints));
      one = λ s l link. weight_within s.told s.sound l link;
    }
