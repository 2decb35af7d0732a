-- From equal charts to equal timetables, and back. Assumes nothing.
use Rattle.std.proofs.Common.{◌≡◌, ℕ, zero, suc, ◌<◌, Bool, true, false, ◌&&◌, List, ℤ, pos, ◌≤ℤ◌, sym, refl, ap, ◌∙◌, subst, ⊎_elim, arith}
use mathlib.Core.Logic.{∥∥₁_elim, ∥∥₁_prop}
use Rattle.std.proofs.lemmas.Int.{ints}
use Rattle.std.proofs.lemmas.Bool.{cases_Bool, true≢false}
use Rattle.alike.specs.Theorems.{Alike}
use Rattle.sheet.specs.declared.forms.Link.{Link}
use Rattle.sheet.specs.Limits.{Sound}
use Rattle.sheet.specs.Links.{IsLink, Keeps, weight}
use Rattle.sheet.specs.Sheets.{RuleSheet, has_step, present, HasStep}
use Rattle.sheet.specs.Timetables.{Timetable, Lawful}
use Rattle.sheet.specs.Waits.{no_wait, IsWait, IsEntry, IsChart}
use Rattle.walks.proofs.LinkLaws.{links_hold, lawful_from_links, link_ends}
use Rattle.walks.proofs.Orders.{le_prop}
use Rattle.walks.proofs.Unique.{chart_unique}
use Rattle.windows.specs.Windows.{entry}
use Rattle.windows.proofs.Waited.{present_below, entry_wait, no_wait_here}

both_ways : (p q : Bool) → (p ≡ true → q ≡ true) → (q ≡ true → p ≡ true) → p ≡ q
both_ways true q there back = sym (there refl)
both_ways false true there back = back refl
both_ways false false there back = refl

-- where two sheets have the same steps, they have the same places
same_places : (s u : RuleSheet) → ((n : ℕ) → has_step s n ≡ has_step u n) → (n : ℕ) → present s n ≡ present u n
same_places s u steps zero = refl
same_places s u steps (suc n) = steps (suc n)

-- two sheets with one chart
module _ (s u : RuleSheet) (ok : Sound s) (fine : Sound u) (chart : List ℤ) (is : IsChart s chart) (also : IsChart u chart) where
  -- a step on one of them is on the other, since the chart tells by its diagonal which steps are there
  step_there : (n : ℕ) → HasStep s n → HasStep u n
  step_there zero there = there
  step_there (suc n) there =
      let low = present_below s ok (suc n) there in
      let here : entry chart (suc n) (suc n) ≡ pos 0 = no_wait_here s (suc n) _ (entry_wait s ok chart is (suc n) (suc n) there there) in
      ⊎_elim
      (λ yes. yes)
      (λ none.
      let absent : entry chart (suc n) (suc n) ≡ no_wait = (also.entries (suc n) (suc n) low low).absent (ap (λ b. b && present u (suc n)) none) in
      absurd (omega (arith, ints)))
      (cases_Bool (has_step u (suc n)))

  -- each link of the one asks for no more than the chart says
  link_below : (l : Link) → IsLink u l → weight u.period l ≤ℤ entry chart l.from l.to
  link_below l link =
      let ends = link_ends u fine l link in
      ∥∥₁_elim (entry_wait u fine chart also l.from l.to ends.0 ends.1).attained (le_prop _ _)
      (λ way.
      let kept = links_hold u way.0 way.1 l link in
      let e = way.2 in
      omega (arith, ints))

module _ (s u : RuleSheet) (ok : Sound s) (fine : Sound u) (chart : List ℤ) (is : IsChart s chart) (also : IsChart u chart) where
  same_steps : (n : ℕ) → has_step s n ≡ has_step u n
  same_steps n = both_ways _ _ (step_there s u ok fine chart is also n) (step_there u s fine ok chart also is n)

  -- what is lawful for the one is lawful for the other
  pub carried : (t : Timetable) → Lawful s t → Lawful u t
  carried t lawful = lawful_from_links u t (λ n. lawful.covers n ∙ same_steps n) keeps
    where
      keeps : (l : Link) → IsLink u l → Keeps u t l
      keeps l link =
          let ends = link_ends u fine l link in
          let places = same_places s u same_steps in
          let asked = link_below s u ok fine chart is also l link in
          let told = (entry_wait s ok chart is l.from l.to (places l.from ∙ ends.0) (places l.to ∙ ends.1)).least t lawful in
          omega (arith, ints)

pub alike_by_chart : (s u : RuleSheet) → Sound s → Sound u → (a b : List ℤ) → IsChart s a → IsChart u b → a ≡ b → Alike s u
alike_by_chart s u ok fine a b is also same t =
    let moved = subst (IsChart u) (sym same) also in
    (carried s u ok fine a is moved t, carried u s fine ok a moved is t)

-- two sheets for which the same timetables are lawful, if there are any
module _ (s u : RuleSheet) (alike : Alike s u) (some : ∥ ((t : Timetable) × Lawful s t) ∥₁) where
  steps_alike : (n : ℕ) → has_step s n ≡ has_step u n
  steps_alike n = both_ways _ _
      (λ there. ⊎_elim (λ yes. yes) (λ none. absurd (∥∥₁_elim some (λ x y. absurd x) (λ way. true≢false (sym there ∙ sym (way.1.covers n) ∙ ((alike way.0).0 way.1).covers n ∙ none)))) (cases_Bool (has_step u n)))
      (λ there. ⊎_elim (λ yes. yes) (λ none. absurd (∥∥₁_elim some (λ x y. absurd x) (λ way. true≢false (sym there ∙ sym (((alike way.0).0 way.1).covers n) ∙ way.1.covers n ∙ none)))) (cases_Bool (has_step s n)))

  wait_alike : (i j : ℕ) (wait : ℤ) → IsWait s i j wait → IsWait u i j wait
  wait_alike i j wait is = record {
    attained = ∥∥₁_elim is.attained ∥∥₁_prop (λ way. ∣ (way.0, (alike way.0).0 way.1, way.2) ∣₁);
    least = λ t lawful. is.least t ((alike t).1 lawful);
  }

  entry_alike : (i j : ℕ) (x : ℤ) → IsEntry s i j x → IsEntry u i j x
  entry_alike i j x is =
      let places = same_places s u steps_alike in
      let both : (present s i && present s j) ≡ (present u i && present u j) = λ k. places i k && places j k in
      record {
        there = λ here. wait_alike i j x (is.there (both ∙ here));
        absent = λ none. is.absent (both ∙ none);
      }

pub chart_by_alike : (s u : RuleSheet) (a b : List ℤ) → IsChart s a → IsChart u b → Alike s u → a ≡ b
chart_by_alike s u a b is also alike =
    let low : 0 < 32 = omega arith in
    let zero_wait = (is.entries 0 0 low low).there refl in
    let some = ∥∥₁_elim zero_wait.attained ∥∥₁_prop (λ way. ∣ (way.0, way.1) ∣₁) in
    chart_unique u a b (record { size = is.size; entries = λ i j row column. entry_alike s u alike some i j _ (is.entries i j row column) }) also
