-- A timetable is lawful exactly if it covers the steps and satisfies every link. Assumes nothing.
use Rattle.std.proofs.Common.{◌≡◌, ℕ, zero, suc, ◌≤◌, pos, ◌+ℤ◌, ◌≤ℤ◌, refl, subst, arith}
use Rattle.std.proofs.lemmas.Int.{ints}
use Rattle.sheet.specs.declared.forms.Link.{Link}
use Rattle.sheet.specs.declared.forms.Rule.{Rule}
use Rattle.sheet.specs.declared.forms.Rule.TheVariants.{Free, After, Within, At}
use Rattle.sheet.specs.Sheets.{RuleSheet, rule_at, HasStep, Present, duration}
use Rattle.sheet.specs.Limits.{RuleFits, Sound}
use Rattle.sheet.specs.Timetables.{Timetable, start, Covers, Obeys, Lawful}
use Rattle.sheet.specs.Links.{IsLink, after, within, at, at_back, floor, ceiling, turn, Keeps, Satisfies}

pub links_hold : (s : RuleSheet) (t : Timetable) → Lawful s t → (l : Link) → IsLink s l → Keeps s t l
links_hold s t k l (after r u v gap carry e) = let h = subst (Obeys s t) e (k.rules r) in omega (arith, ints)
links_hold s t k l (within r u v hours e) = let h = subst (Obeys s t) e (k.rules r) in omega (arith, ints)
links_hold s t k l (at r v hour e) = let h = subst (Obeys s t) e (k.rules r) in omega (arith, ints)
links_hold s t k l (at_back r v hour e) = let h = subst (Obeys s t) e (k.rules r) in omega (arith, ints)
links_hold s t k l (floor v there) = let h = k.from_zero v there in omega (arith, ints)
links_hold s t k l (ceiling v there) = let h = k.in_span v there in omega (arith, ints)
links_hold s t k l (turn v there) = let h = k.in_period v there in omega (arith, ints)

module _ (s : RuleSheet) (t : Timetable) (every : Satisfies s t) where
  from_zero : (n : ℕ) → HasStep s n → pos 0 ≤ℤ start t n
  from_zero n there = let h = every _ (floor n there) in omega (arith, ints)

  in_span : (n : ℕ) → HasStep s n → (start t n +ℤ pos (duration s n)) ≤ℤ pos s.span
  in_span n there = let h = every _ (ceiling n there) in omega (arith, ints)

  in_period : (n : ℕ) → HasStep s n → duration s n ≤ s.period
  in_period n there = let h = every _ (turn n there) in omega (arith, ints)

  obeyed : (r : ℕ) (rule : Rule) → rule_at s r ≡ rule → Obeys s t rule
  obeyed r Free e = tt
  obeyed r (After u v gap carry) e = let h = every _ (after r u v gap carry e) in omega (arith, ints)
  obeyed r (Within u v hours) e = let h = every _ (within r u v hours e) in omega (arith, ints)
  obeyed r (At v hour) e =
      let h = every _ (at r v hour e) in
      let back = every _ (at_back r v hour e) in
      omega (arith, ints)

pub lawful_from_links : (s : RuleSheet) (t : Timetable) → Covers s t → Satisfies s t → Lawful s t
lawful_from_links s t covers every =
    record {
      covers = covers;
      from_zero = from_zero s t every;
      in_span = in_span s t every;
      in_period = in_period s t every;
      rules = λ r. obeyed s t every r (rule_at s r) refl;
    }

pub step_present : (s : RuleSheet) (n : ℕ) → HasStep s n → Present s n
step_present s zero there = refl
step_present s (suc n) there = there

-- the ends of a sound sheet's links are there
pub link_ends : (s : RuleSheet) → Sound s → (l : Link) → IsLink s l → Present s l.from × Present s l.to
link_ends s ok l (after r u v gap carry e) =
    let fits = subst (RuleFits (HasStep s)) e (ok.rules r) in (step_present s u fits.0, step_present s v fits.1)
link_ends s ok l (within r u v hours e) =
    let fits = subst (RuleFits (HasStep s)) e (ok.rules r) in (step_present s v fits.1, step_present s u fits.0)
link_ends s ok l (at r v hour e) =
    let fits = subst (RuleFits (HasStep s)) e (ok.rules r) in (refl, step_present s v fits.0)
link_ends s ok l (at_back r v hour e) =
    let fits = subst (RuleFits (HasStep s)) e (ok.rules r) in (step_present s v fits.0, refl)
link_ends s ok l (floor v there) = (refl, step_present s v there)
link_ends s ok l (ceiling v there) = (step_present s v there, refl)
link_ends s ok l (turn v there) = (step_present s v there, step_present s v there)
