-- How the windows narrow with a start placed. Assumes nothing.
use Rattle.std.proofs.Common.{◌≡◌, ℕ, zero, suc, Bool, true, false, cond, eqb, List, ℤ, pos, ◌+ℤ◌, ◌-ℤ◌, neg_ℤ, ◌≤ℤ◌, is_some, Some, None, Option, unwrap_or, sym, refl, ap, ◌∙◌, ⊎_elim, arith}
use mathlib.Core.Logic.{∥∥₁_elim, ∥∥₁_prop}
use Rattle.std.specs.Int.{int_max, int_min}
use Rattle.std.proofs.lemmas.Int.{ints, clamps}
use Rattle.std.proofs.lemmas.Bool.{cases_Bool, true≢false, false≢true, eqb-true, eq-eqb}
use Rattle.sheet.specs.declared.forms.Link.{Link}
use Rattle.sheet.specs.Limits.{Sound}
use Rattle.sheet.specs.Links.{IsLink, Keeps, weight}
use Rattle.sheet.specs.Sheets.{RuleSheet, has_step, HasStep, Present}
use Rattle.sheet.specs.Timetables.{Timetable, start, Lawful}
use Rattle.sheet.specs.Waits.{IsChart}
use Rattle.walks.proofs.LinkLaws.{links_hold, lawful_from_links, link_ends, step_present}
use Rattle.walks.proofs.Orders.{le_prop}
use Rattle.windows.specs.Windows.{entry, nothing_placed, with_start, Agrees, IsWindow}
use Rattle.windows.proofs.Waited.{entry_wait, wait_link, link_wait, no_wait_here}

-- the timetable in which every step of the sheet starts at the hour that a function gives
abbrev pub table_of : RuleSheet → (ℕ → ℤ) → Timetable
table_of s hours n = cond (has_step s n) (Some (hours n)) None

pub some_if : (b : Bool) (x : ℤ) → is_some (cond b (Some x) None) ≡ b
some_if true x = refl
some_if false x = refl

module _ (s : RuleSheet) (hours : ℕ → ℤ) (from_zero : hours 0 ≡ pos 0) where
  pub table_start : (n : ℕ) → Present s n → start (table_of s hours) n ≡ hours n
  table_start zero there = sym from_zero
  table_start (suc n) there = ap (λ b. unwrap_or (cond b (Some (hours (suc n))) None) (pos 0)) there

  pub table_lawful : Sound s → ((l : Link) → IsLink s l → (hours l.from +ℤ weight s.period l) ≤ℤ hours l.to) → Lawful s (table_of s hours)
  table_lawful ok each = lawful_from_links s (table_of s hours) (λ n. some_if (has_step s n) _) keeps
    where
      keeps : (l : Link) → IsLink s l → Keeps s (table_of s hours) l
      keeps l link =
          let ends = link_ends s ok l link in
          let low = each l link in
          let first = table_start l.from ends.0 in
          let last = table_start l.to ends.1 in
          omega (arith, ints)

some_is : (o : Option ℤ) (hour : ℤ) → o ≡ Some hour → unwrap_or o (pos 0) ≡ hour
some_is o hour e = ap (λ p. unwrap_or p (pos 0)) e

-- what a lawful timetable has of a step placed
pub agreed_step : (s : RuleSheet) (placed t : Timetable) → Lawful s t → Agrees placed t → (n : ℕ) (hour : ℤ) → placed n ≡ Some hour → HasStep s n
agreed_step s placed t lawful agrees n hour e = sym (lawful.covers n) ∙ ap is_some (agrees n hour e)

pub agreed_start : (s : RuleSheet) (placed t : Timetable) → Lawful s t → Agrees placed t → (n : ℕ) (hour : ℤ) → placed n ≡ Some hour → start t n ≡ hour
agreed_start s placed t lawful agrees zero hour e = absurd (false≢true (agreed_step s placed t lawful agrees zero hour e))
agreed_start s placed t lawful agrees (suc n) hour e = some_is (t (suc n)) hour (agrees (suc n) hour e)

-- one start more
pub agrees_before : (placed t : Timetable) (x : ℕ) (hour : ℤ) → is_some (placed x) ≡ false → Agrees (with_start placed x hour) t → Agrees placed t
agrees_before placed t x hour vacant agrees n h e =
    ⊎_elim
    (λ same. absurd (true≢false (sym (ap is_some e) ∙ ap (λ m. is_some (placed m)) (eqb-true n x same) ∙ vacant)))
    (λ other. agrees n h (ap (λ b. cond b (Some hour) (placed n)) other ∙ e))
    (cases_Bool (eqb n x))

pub placed_there : (placed : Timetable) (x : ℕ) (hour : ℤ) → with_start placed x hour x ≡ Some hour
placed_there placed x hour = ap (λ b. cond b (Some hour) (placed x)) (eq-eqb x x refl)

pub some_inj : (a b : ℤ) → Some a ≡ Some b → a ≡ b
some_inj a b e = ap (λ o. unwrap_or o (pos 0)) e

-- a step placed is on the sheet, as some timetable agrees
pub placed_on_sheet : (s : RuleSheet) (placed : Timetable) → ∥ ((t : Timetable) × Lawful s t × Agrees placed t) ∥₁ → (n : ℕ) (hour : ℤ) → placed n ≡ Some hour → HasStep s n
placed_on_sheet s placed some n hour e =
    ⊎_elim
    (λ there. there)
    (λ absent. absurd (∥∥₁_elim some (λ x y. absurd x) (λ way. true≢false (sym (agreed_step s placed way.0 way.1 way.2 n hour e) ∙ absent))))
    (cases_Bool (has_step s n))

-- windows of all places, as two functions; place 0 has hour zero alone
abbrev pub Windows : RuleSheet → Timetable → (ℕ → ℤ) → (ℕ → ℤ) → Type 0
Windows s placed first last = (n : ℕ) → Present s n → IsWindow s placed n (first n) (last n)

-- With nothing placed, the wait chart tells the windows.
pub open_windows : (s : RuleSheet) → Sound s → (chart : List ℤ) → IsChart s chart → Windows s nothing_placed (entry chart 0) (λ n. neg_ℤ (entry chart n 0))
open_windows s ok chart is n there =
    let to = entry_wait s ok chart is 0 n refl there in
    let back = entry_wait s ok chart is n 0 there refl in
    record {
      from = record {
        attained = ∥∥₁_elim to.attained ∥∥₁_prop (λ way. let e = way.2 in ∣ (way.0, way.1, (λ m h none. absurd (false≢true (ap is_some none))), omega (arith, ints)) ∣₁);
        least = λ t lawful _. let low = to.least t lawful in omega (arith, ints);
      };
      to = record {
        attained = ∥∥₁_elim back.attained ∥∥₁_prop (λ way. let e = way.2 in ∣ (way.0, way.1, (λ m h none. absurd (false≢true (ap is_some none))), omega (arith, ints)) ∣₁);
        greatest = λ t lawful _. let low = back.least t lawful in omega (arith, ints);
      };
    }

-- the first and the last hour of step n after another step was placed at an hour: the waits from and to that step
abbrev pub later_first : List ℤ → (ℕ → ℤ) → ℕ → ℤ → ℕ → ℤ
later_first chart first x hour n = int_max (first n) (hour +ℤ entry chart x n)

abbrev pub sooner_last : List ℤ → (ℕ → ℤ) → ℕ → ℤ → ℕ → ℤ
sooner_last chart last x hour n = int_min (last n) (hour -ℤ entry chart n x)

module _ (s : RuleSheet) (ok : Sound s) (chart : List ℤ) (is : IsChart s chart) (placed : Timetable) (first last : ℕ → ℤ) (windows : Windows s placed first last) (x : ℕ) (here : HasStep s x) (hour : ℤ) (low : first x ≤ℤ hour) (high : hour ≤ℤ last x) where
  at_x : Present s x
  at_x = step_present s x here

  first_link : (l : Link) → IsLink s l → (first l.from +ℤ weight s.period l) ≤ℤ first l.to
  first_link l link =
      let ends = link_ends s ok l link in
      ∥∥₁_elim (windows l.to ends.1).from.attained (le_prop _ _)
      (λ way.
      let least = (windows l.from ends.0).from.least way.0 way.1 way.2 in
      let kept = links_hold s way.0 way.1 l link in
      let e = way.3 in
      omega (arith, ints))

  last_link : (l : Link) → IsLink s l → (last l.from +ℤ weight s.period l) ≤ℤ last l.to
  last_link l link =
      let ends = link_ends s ok l link in
      ∥∥₁_elim (windows l.from ends.0).to.attained (le_prop _ _)
      (λ way.
      let greatest = (windows l.to ends.1).to.greatest way.0 way.1 way.2 in
      let kept = links_hold s way.0 way.1 l link in
      let e = way.3 in
      omega (arith, ints))

  later_link : (l : Link) → IsLink s l → (later_first chart first x hour l.from +ℤ weight s.period l) ≤ℤ later_first chart first x hour l.to
  later_link l link =
      let ends = link_ends s ok l link in
      let before = first_link l link in
      let onward = wait_link s x l _ _ link (entry_wait s ok chart is x l.from at_x ends.0) (entry_wait s ok chart is x l.to at_x ends.1) in
      omega (arith, ints, clamps)

  sooner_link : (l : Link) → IsLink s l → (sooner_last chart last x hour l.from +ℤ weight s.period l) ≤ℤ sooner_last chart last x hour l.to
  sooner_link l link =
      let ends = link_ends s ok l link in
      let before = last_link l link in
      let onward = link_wait s x l _ _ link (entry_wait s ok chart is l.from x ends.0 at_x) (entry_wait s ok chart is l.to x ends.1 at_x) in
      omega (arith, ints, clamps)

  -- a place at which every such timetable has the same hour keeps that hour
  module _ (p : ℕ) (there : Present s p) (a : ℤ) (pinned : (t : Timetable) → Lawful s t → Agrees placed t → start t p ≡ a) where
    pinned_first : first p ≡ a
    pinned_first =
        let up : first p ≤ℤ a = ∥∥₁_elim (windows p there).from.attained (le_prop _ _) (λ way. let e = pinned way.0 way.1 way.2 in let f = way.3 in omega (arith, ints)) in
        let down : a ≤ℤ first p = ∥∥₁_elim (windows p there).from.attained (le_prop _ _) (λ way. let e = pinned way.0 way.1 way.2 in let f = way.3 in omega (arith, ints)) in
        omega (arith, ints)

    pinned_last : last p ≡ a
    pinned_last =
        let up : last p ≤ℤ a = ∥∥₁_elim (windows p there).to.attained (le_prop _ _) (λ way. let e = pinned way.0 way.1 way.2 in let f = way.3 in omega (arith, ints)) in
        let down : a ≤ℤ last p = ∥∥₁_elim (windows p there).to.attained (le_prop _ _) (λ way. let e = pinned way.0 way.1 way.2 in let f = way.3 in omega (arith, ints)) in
        omega (arith, ints)

    pinned_later : later_first chart first x hour p ≡ a
    pinned_later =
        let e = pinned_first in
        let room : (hour +ℤ entry chart x p) ≤ℤ a =
        ∥∥₁_elim (windows x at_x).to.attained (le_prop _ _)
        (λ way.
        let least = (entry_wait s ok chart is x p at_x there).least way.0 way.1 in
        let f = pinned way.0 way.1 way.2 in
        let g = way.3 in
        omega (arith, ints)) in
        omega (arith, ints, clamps)

    pinned_sooner : sooner_last chart last x hour p ≡ a
    pinned_sooner =
        let e = pinned_last in
        let room : a ≤ℤ (hour -ℤ entry chart p x) =
        ∥∥₁_elim (windows x at_x).from.attained (le_prop _ _)
        (λ way.
        let least = (entry_wait s ok chart is p x there at_x).least way.0 way.1 in
        let f = pinned way.0 way.1 way.2 in
        let g = way.3 in
        omega (arith, ints)) in
        omega (arith, ints, clamps)

  later_here : later_first chart first x hour x ≡ hour
  later_here = let none = no_wait_here s x _ (entry_wait s ok chart is x x at_x at_x) in omega (arith, ints, clamps)

  sooner_here : sooner_last chart last x hour x ≡ hour
  sooner_here = let none = no_wait_here s x _ (entry_wait s ok chart is x x at_x at_x) in omega (arith, ints, clamps)

  pub some_agrees : ∥ ((t : Timetable) × Lawful s t × Agrees placed t) ∥₁
  some_agrees = ∥∥₁_elim (windows x at_x).from.attained ∥∥₁_prop (λ way. ∣ (way.0, way.1, way.2) ∣₁)

  -- a function that keeps the hours of the steps placed, and has the new one, agrees with them all
  table_agrees : (hours : ℕ → ℤ) → hours x ≡ hour → ((p : ℕ) → Present s p → (a : ℤ) → ((t : Timetable) → Lawful s t → Agrees placed t → start t p ≡ a) → hours p ≡ a) → Agrees (with_start placed x hour) (table_of s hours)
  table_agrees hours new kept n h e =
      ⊎_elim
      (λ same.
      let is_x = eqb-true n x same in
      let said : hour ≡ h = some_inj hour h (sym (ap (λ b. cond b (Some hour) (placed n)) same) ∙ e) in
      ap (λ b. cond b (Some (hours n)) None) (ap (has_step s) is_x ∙ here) ∙ ap Some (ap hours is_x ∙ new ∙ said))
      (λ other.
      let old : placed n ≡ Some h = sym (ap (λ b. cond b (Some hour) (placed n)) other) ∙ e in
      let there = placed_on_sheet s placed some_agrees n h old in
      let stays = kept n (step_present s n there) h (λ t lawful agrees. agreed_start s placed t lawful agrees n h old) in
      ap (λ b. cond b (Some (hours n)) None) there ∙ ap Some stays)
      (cases_Bool (eqb n x))

  pub narrowed_windows : is_some (placed x) ≡ false → Windows s (with_start placed x hour) (later_first chart first x hour) (sooner_last chart last x hour)
  narrowed_windows vacant n there =
      let early = later_first chart first x hour in
      let late = sooner_last chart last x hour in
      let early_zero = pinned_later 0 refl (pos 0) (λ t _ _. refl) in
      let late_zero = pinned_sooner 0 refl (pos 0) (λ t _ _. refl) in
      record {
        from = record {
          attained = ∣ (table_of s early, table_lawful s early early_zero ok later_link, table_agrees early later_here pinned_later, table_start s early early_zero n there) ∣₁;
          least = λ t lawful agrees.
              let old = (windows n there).from.least t lawful (agrees_before placed t x hour vacant agrees) in
              let wait = (entry_wait s ok chart is x n at_x there).least t lawful in
              let now = agreed_start s (with_start placed x hour) t lawful agrees x hour (placed_there placed x hour) in
              omega (arith, ints, clamps);
        };
        to = record {
          attained = ∣ (table_of s late, table_lawful s late late_zero ok sooner_link, table_agrees late sooner_here pinned_sooner, table_start s late late_zero n there) ∣₁;
          greatest = λ t lawful agrees.
              let old = (windows n there).to.greatest t lawful (agrees_before placed t x hour vacant agrees) in
              let wait = (entry_wait s ok chart is n x there at_x).least t lawful in
              let now = agreed_start s (with_start placed x hour) t lawful agrees x hour (placed_there placed x hour) in
              omega (arith, ints, clamps);
        };
      }
