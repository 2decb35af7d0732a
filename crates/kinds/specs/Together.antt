-- Hours with a count of links, as a kind of entry. Assumes nothing.
use Rattle.std.specs.Prelude.{◌≡◌, ℕ, ◌+◌, ◌<◌, ◌≤◌, ◌⊎◌, ℤ, pos, ◌+ℤ◌, ◌<ℤ◌, refl}
use Rattle.std.proofs.Common.{inl, inr, ⊎_elim, ap, ◌∙◌, arith}
use Rattle.std.proofs.lemmas.Int.{ints, by_lt_z}
use Rattle.std.proofs.lemmas.Bool.{cases_lt}
use Rattle.sheet.specs.declared.forms.Link.{Link}
use Rattle.sheet.specs.Links.{weight}
use Rattle.chart.specs.Laws.{Laws}
use Rattle.kinds.specs.declared.together.Counted.{Counted}
use Rattle.kinds.specs.Bounds.{HoursWithin, weight_within}

abbrev pub counted : ℤ → ℕ → Counted
counted hours links = record { hours = hours; links = links }

abbrev pub no_link : Counted
no_link = counted (pos 0) 0

abbrev pub counted_sum : Counted → Counted → Counted
counted_sum x y = counted (x.hours +ℤ y.hours) (x.links + y.links)

-- More hours rank higher, and at equal hours fewer links do.
abbrev pub RanksUnder : Counted → Counted → Type 0
RanksUnder x y = (x.hours <ℤ y.hours) ⊎ ((x.hours ≡ y.hours) × (y.links ≤ x.links))

abbrev pub CountedWithin : ℕ → Counted → Type 0
CountedWithin n x = HoursWithin n x.hours × (x.links ≤ n)

abbrev pub one_link : ℕ → Link → Counted
one_link period l = counted (weight period l) 1

same : (h k : ℤ) (m n : ℕ) → h ≡ k → m ≡ n → counted h m ≡ counted k n
same h k m n e f = ap (λ x. counted x m) e ∙ ap (counted k) f

transitive : (x y z : Counted) → RanksUnder x y → RanksUnder y z → RanksUnder x z
transitive x y z (inl p) (inl q) = inl (omega (arith, ints))
transitive x y z (inl p) (inr q) = let e = q.0 in inl (omega (arith, ints))
transitive x y z (inr p) (inl q) = let e = p.0 in inl (omega (arith, ints))
transitive x y z (inr p) (inr q) = let h = p.1 in let k = q.1 in inr (p.0 ∙ q.0, omega arith)

antisymmetric : (x y : Counted) → RanksUnder x y → RanksUnder y x → x ≡ y
antisymmetric x y (inl p) (inl q) = absurd (omega (arith, ints))
antisymmetric x y (inl p) (inr q) = let e = q.0 in absurd (omega (arith, ints))
antisymmetric x y (inr p) (inl q) = let e = p.0 in absurd (omega (arith, ints))
antisymmetric x y (inr p) (inr q) =
    let h = p.1 in let k = q.1 in same x.hours y.hours x.links y.links p.0 (omega arith)

total : (x y : Counted) → RanksUnder x y ⊎ RanksUnder y x
total x y =
    by_lt_z x.hours y.hours (λ h. inl (inl h))
    (λ h.
    by_lt_z y.hours x.hours (λ k. inr (inl k))
    (λ k.
    let e : x.hours ≡ y.hours = omega (arith, ints) in
    let f : y.hours ≡ x.hours = omega (arith, ints) in
    ⊎_elim (λ (lt : x.links < y.links). inr (inr (f, omega arith)))
    (λ (ge : y.links ≤ x.links). inl (inr (e, ge))) (cases_lt x.links y.links)))

behind : (x y z : Counted) → RanksUnder y z → RanksUnder (counted_sum x y) (counted_sum x z)
behind x y z (inl p) = inl (omega (arith, ints))
behind x y z (inr p) = let h = p.1 in inr (ap (λ h. x.hours +ℤ h) p.0, omega arith)

before : (x y z : Counted) → RanksUnder x y → RanksUnder (counted_sum x z) (counted_sum y z)
before x y z (inl p) = inl (omega (arith, ints))
before x y z (inr p) = let h = p.1 in inr (ap (λ h. h +ℤ z.hours) p.0, omega arith)

pub counted_laws : Laws no_link counted_sum RanksUnder CountedWithin one_link
counted_laws =
    record {
      left_neutral = λ x. same _ _ _ _ (omega (arith, ints)) (omega arith);
      right_neutral = λ x. same _ _ _ _ (omega (arith, ints)) (omega arith);
      associative = λ x y z. same _ _ _ _ (omega (arith, ints)) (omega arith);
      reflexive = λ x. inr (refl, omega arith);
      transitive = transitive;
      antisymmetric = antisymmetric;
      total = total;
      behind = behind;
      before = before;
      none = ((omega (arith, ints), omega (arith, ints)), omega arith);
      more = λ m n x h p. let k = p.0 in let l = p.1 in ((omega (arith, ints), omega (arith, ints)), omega arith);
      joined =
          λ m n x y p q.
          let a = p.0 in let b = q.0 in let k = p.1 in let l = q.1 in
          ((omega (arith, ints), omega (arith, ints)), omega arith);
      one = λ s l link. (weight_within s.told s.sound l link, omega arith);
    }
