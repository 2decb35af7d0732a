-- The steps that a chooser's rule reaches keep windows, and once none is left waiting they are a lawful timetable.
-- Assumes nothing.
use Rattle.std.proofs.Common.{◌≡◌, ℕ, zero, suc, ◌≤◌, true, eqb, List, length, replicate, ℤ, pos, neg_ℤ, ◌≤ℤ◌, is_some, Some, None, Option, sym, refl, ap, ◌∙◌, subst, ⊎_elim, arith}
use mathlib.Core.Logic.{∥∥₁_elim, ∥∥₁_prop}
use Rattle.std.proofs.lemmas.List.{get_or-replicate, get_or_past, length-replicate}
use Rattle.std.proofs.lemmas.Int.{ints}
use Rattle.std.proofs.lemmas.Bool.{cases_Bool, cases_lt, cases_eq, eq-eqb, ne_eqb, cond-true, cond-false, false≢true}
use Rattle.choose.specs.Choosing.{HourRule}
use Rattle.sheet.proofs.Numbered.{length-replaced, numbered-replaced_same, numbered-replaced_other}
use Rattle.sheet.specs.Edits.{replaced}
use Rattle.sheet.specs.Limits.{Sound}
use Rattle.sheet.specs.Sheets.{RuleSheet, HasStep}
use Rattle.sheet.specs.Timetables.{Timetable, Lawful}
use Rattle.sheet.specs.Waits.{IsChart}
use Rattle.vessels.specs.declared.placed.Placed.{Placed}
use Rattle.walks.proofs.LinkLaws.{step_present}
use Rattle.walks.proofs.Orders.{le_prop}
use Rattle.walks.proofs.Small.{start_within}
use Rattle.windows.specs.Placing.{start_of, starts, view_of, placed_at, Reached, nothing, further, Filled}
use Rattle.windows.specs.Windows.{entry, nothing_placed, with_start, Agrees, IsWindow, Waiting}
use Rattle.windows.proofs.Finished.{finished_lawful}
use Rattle.windows.proofs.Narrowing.{Windows, open_windows, later_first, sooner_last, narrowed_windows}
use Rattle.windows.proofs.Single.{first_unique, last_unique}
use Rattle.windows.proofs.Waited.{present_below}

-- the starts of a list with one step more
pub starts_more : (placed : List (Option Placed)) (n hour duration kind : ℕ) → 1 ≤ n → n ≤ length placed → starts (replaced placed n (Some (placed_at hour duration kind))) ≡ with_start (starts placed) n (pos hour)
starts_more placed n hour duration kind some inside = λ i m. each m i
  where
    step : Option Placed
    step = Some (placed_at hour duration kind)

    each : (m : ℕ) → starts (replaced placed n step) m ≡ with_start (starts placed) n (pos hour) m
    each m =
        ⊎_elim
        (λ same.
        ap (starts (replaced placed n step)) same
        ∙ ap start_of (numbered-replaced_same None placed n step some inside)
        ∙ sym (cond-true (eqb m n) (Some (pos hour)) (starts placed m) (eq-eqb m n same)))
        (λ other.
        ap start_of (numbered-replaced_other None placed n m step other)
        ∙ sym (cond-false (eqb m n) (Some (pos hour)) (starts placed m) (ne_eqb m n other)))
        (cases_eq m n)

pub starts_none : starts (replicate 31 None) ≡ nothing_placed
starts_none = λ i n. each n i
  where
    each : (n : ℕ) → starts (replicate 31 None) n ≡ nothing_placed n
    each zero = refl
    each (suc n) =
        ⊎_elim
        (λ inside. ap start_of (get_or-replicate 31 n None None inside))
        (λ past. ap start_of (get_or_past (replicate 31 None) n None past))
        (cases_lt n 31)

-- the first hour of a window is not after the last, and both lie within the span
pub window_ordered : (s : RuleSheet) (placed : Timetable) (n : ℕ) (first last : ℤ) → IsWindow s placed n first last → first ≤ℤ last
window_ordered s placed n first last w =
    ∥∥₁_elim w.from.attained (le_prop _ _)
    (λ way.
    let high = w.to.greatest way.0 way.1 way.2 in
    let e = way.3 in
    omega (arith, ints))

pub window_from_zero : (s : RuleSheet) (placed : Timetable) (n : ℕ) (first last : ℤ) → IsWindow s placed n first last → pos 0 ≤ℤ first
window_from_zero s placed n first last w =
    ∥∥₁_elim w.from.attained (le_prop _ _)
    (λ way.
    let low = (start_within s way.0 way.1 n).0 in
    let e = way.3 in
    omega (arith, ints))

pub window_in_span : (s : RuleSheet) (placed : Timetable) (n : ℕ) (first last : ℤ) → IsWindow s placed n first last → last ≤ℤ pos s.span
window_in_span s placed n first last w =
    ∥∥₁_elim w.to.attained (le_prop _ _)
    (λ way.
    let high = (start_within s way.0 way.1 n).1 in
    let e = way.3 in
    omega (arith, ints))

pub step_numbers : (s : RuleSheet) → Sound s → (n : ℕ) → HasStep s n → (1 ≤ n) × (n ≤ 31)
step_numbers s ok zero there = absurd (false≢true there)
step_numbers s ok (suc n) there = (omega arith, omega (arith, present_below s ok (suc n) there))

module _ (s : RuleSheet) (ok : Sound s) (chart : List ℤ) (is : IsChart s chart) (rule : HourRule) where
  -- the hour that a rule names lies in the window
  pub named_hour : (placed : List (Option Placed)) (n duration kind first last : ℕ) → IsWindow s (starts placed) n (pos first) (pos last) → (first ≤ rule.hour (view_of s placed n duration kind first last)) × (rule.hour (view_of s placed n duration kind first last) ≤ last)
  named_hour placed n duration kind first last w =
      let view = view_of s placed n duration kind first last in
      let ordered = window_ordered s (starts placed) n (pos first) (pos last) w in
      (rule.not_before view, rule.not_after view (omega (arith, ints)))

  -- windows of all places, and room for 31 steps
  pub record Stands (placed : List (Option Placed)) : Type 0 where
    pub long : length placed ≡ 31
    pub first : ℕ → ℤ
    pub last : ℕ → ℤ
    pub windows : Windows s (starts placed) first last

  stands_more : (placed : List (Option Placed)) (n duration kind hour : ℕ) → (before : Stands placed) → Waiting s (starts placed) n → before.first n ≤ℤ pos hour → pos hour ≤ℤ before.last n → Stands (replaced placed n (Some (placed_at hour duration kind)))
  stands_more placed n duration kind hour before waiting low high =
      let number = step_numbers s ok n waiting.there in
      let long = before.long in
      let new = narrowed_windows s ok chart is (starts placed) before.first before.last before.windows n waiting.there (pos hour) low high waiting.not_placed in
      record {
        long = length-replaced None placed n (Some (placed_at hour duration kind)) ∙ long;
        first = later_first chart before.first n (pos hour);
        last = sooner_last chart before.last n (pos hour);
        windows = subst (λ t. Windows s t (later_first chart before.first n (pos hour)) (sooner_last chart before.last n (pos hour))) (sym (starts_more placed n hour duration kind number.0 (omega arith))) new;
      }

  pub reached_stands : (placed : List (Option Placed)) → Reached s rule placed → Stands placed
  reached_stands placed nothing = record {
    long = length-replicate {A = Option Placed} 31 None;
    first = entry chart 0;
    last = λ n. neg_ℤ (entry chart n 0);
    windows = subst (λ t. Windows s t (entry chart 0) (λ n. neg_ℤ (entry chart n 0))) (sym starts_none) (open_windows s ok chart is);
  }
  reached_stands placed (further old n duration kind first last reached next told window) =
      let before = reached_stands old reached in
      let there = step_present s n next.waiting.there in
      let hour = named_hour old n duration kind first last window in
      let firsts = first_unique s (starts old) n _ _ (before.windows n there).from window.from in
      let lasts = last_unique s (starts old) n _ _ (before.windows n there).to window.to in
      stands_more old n duration kind _ before next.waiting (omega (arith, ints)) (omega (arith, ints))

  -- some lawful timetable agrees with the steps reached
  pub reached_agrees : (placed : List (Option Placed)) → Reached s rule placed → ∥ ((t : Timetable) × Lawful s t × Agrees (starts placed) t) ∥₁
  reached_agrees placed reached =
      let stands = reached_stands placed reached in
      ∥∥₁_elim (stands.windows 0 refl).from.attained ∥∥₁_prop (λ way. ∣ (way.0, way.1, way.2) ∣₁)

  -- when no step is left waiting, the starts placed are a lawful timetable
  pub filled_lawful : (placed : List (Option Placed)) → Filled s rule placed → Lawful s (starts placed)
  filled_lawful placed filled = finished_lawful s ok (starts placed) (reached_agrees placed filled.reached) all
    where
      all : (n : ℕ) → HasStep s n → is_some (starts placed n) ≡ true
      all n there =
          ⊎_elim
          (λ given. given)
          (λ none. absurd (filled.none_left n (record { there = there; not_placed = none })))
          (cases_Bool (is_some (starts placed n)))
