-- The step with the least slack is the next step. Assumes nothing.
use Rattle.std.proofs.Common.{◌≡◌, ℕ, ◌+◌, ◌-◌, ◌<◌, false, List, length, get_or, ℤ, ◌-ℤ◌, ◌<ℤ◌, is_some, Some, None, Option, sym, refl, ap, ◌∙◌, subst, ⊎_elim, zero-add, add-one, arith}
use Rattle.std.specs.Option.{option_map}
use Rattle.std.specs.List.{enumerate_from, zip}
use Rattle.std.proofs.lemmas.List.{get_or_default}
use Rattle.std.proofs.lemmas.List.FromFn.{get_or-enumerate_from, length-enumerate_from}
use Rattle.std.proofs.lemmas.Slice.Zip.{get_or-zip, length-zip}
use Rattle.std.proofs.lemmas.Int.{ints}
use Rattle.std.proofs.lemmas.Bool.{cases_lt, true≢false, false≢true}
use Rattle.plan.specs.Next.{slack_left, slacks_left, Leads, Leader, NamesNext}
use Rattle.plan.specs.Told.{Tells, Told}
use Rattle.plan.specs.declared.next.Candidate.{Candidate}
use Rattle.plan.specs.declared.window.Window.{Window}
use Rattle.sheet.specs.Limits.{Sound}
use Rattle.sheet.specs.Sheets.{RuleSheet, HasStep}
use Rattle.sheet.specs.Timetables.{Timetable}
use Rattle.vessels.specs.Vessels.{at}
use Rattle.vessels.specs.declared.placed.Placed.{Placed}
use Rattle.windows.specs.Placing.{start_of, starts}
use Rattle.windows.specs.Windows.{IsSlack, Waiting}
use Rattle.windows.proofs.Narrowing.{some_inj}
use Rattle.windows.proofs.Single.{slack_unique}
use Rattle.windows.proofs.Steps.{step_numbers}

-- a place with less slack than the one held takes the lead
pub takes_lead : (slacks : ℕ → Option ℤ) (place : ℕ) (hours told : ℤ) (held : Candidate) → told ≡ hours → slacks place ≡ Some hours → Leads slacks place held → hours <ℤ held.slack → Leads slacks (place + 1) (record { place = place; slack = told })
takes_lead slacks place hours told held so is lead less = record {
  inside = omega arith;
  is = is ∙ ap Some (sym so);
  fewest = λ i low h e.
      ⊎_elim
      (λ before. let old = lead.fewest i before h e in omega (arith, ints))
      (λ after.
      let same : i ≡ place = omega arith in
      let equal = some_inj hours h (sym is ∙ ap slacks (sym same) ∙ e) in
      omega (arith, ints))
      (cases_lt i place);
  first = λ i low h e. let old = lead.fewest i low h e in omega (arith, ints);
}

-- what a pass over windows and steps with their places gives at the i-th turn
module _ (windows : List (Option Window)) (placed : List (Option Placed)) (all_windows : length windows ≡ 31) (all_steps : length placed ≡ 31) where
  pub length_rows : length (enumerate_from 0 (zip windows placed)) ≡ 31
  length_rows = omega (arith, length-enumerate_from 0 (zip windows placed), length-zip windows placed)

  module _ (i place : ℕ) (window : Option Window) (step : Option Placed) (low : i < length (enumerate_from 0 (zip windows placed))) (is : (place, (window, step)) ≡ get_or (enumerate_from 0 (zip windows placed)) i (place, (window, step))) where
    here : ◌≡◌ {A = ℕ × (Option Window × Option Placed)} (place, (window, step)) (0 + i, (get_or windows i window, get_or placed i step))
    here =
        is ∙ get_or-enumerate_from 0 (zip windows placed) i (place, (window, step)) (omega (arith, length-enumerate_from 0 (zip windows placed)))
        ∙ ap (λ row. (0 + i, row)) (get_or-zip windows placed i (window, step) (omega (arith, length_rows)) (omega (arith, length_rows)))

    pub place_at : place ≡ i
    place_at = ap (λ row. row.0) here ∙ zero-add i

    pub slack_at : slack_left window step ≡ slacks_left windows placed i
    slack_at =
        ap (λ row. slack_left row.1.0 row.1.1) here
        ∙ ap (λ w. slack_left w (get_or placed i step)) (get_or_default windows i window None (omega (arith, length_rows)))
        ∙ ap (slack_left (get_or windows i None)) (get_or_default placed i step None (omega (arith, length_rows)))

-- a slack is that of a step which waits
slack_tells : (s : RuleSheet) (t : Timetable) (n : ℕ) (o : Option Window) (given : Option Placed) (h : ℤ) → Tells s t n o → slack_left o given ≡ Some h → (is_some given ≡ false) × HasStep s n × IsSlack s t n h
slack_tells s t n o (Some step) h told e = absurd (false≢true (ap is_some e))
slack_tells s t n None None h told e = absurd (false≢true (ap is_some e))
slack_tells s t n (Some w) None h told e = (refl, told.0, record { first = w.first; last = w.last; window = told.1; between = sym (some_inj _ h e) })

-- and a step which waits has a slack
waits_tells : (s : RuleSheet) (t : Timetable) (n : ℕ) (o : Option Window) (given : Option Placed) → Tells s t n o → HasStep s n → is_some given ≡ false → (h : ℤ) × (slack_left o given ≡ Some h)
waits_tells s t n o (Some step) told there open_step = absurd (true≢false open_step)
waits_tells s t n None None told there open_step = absurd (true≢false (sym there ∙ told))
waits_tells s t n (Some w) None told there open_step = (w.last -ℤ w.first, refl)

-- a step is placed exactly if it has a start
has_start : (step : Option Placed) → is_some (start_of step) ≡ is_some step
has_start None = refl
has_start (Some step) = refl

-- whether step i + 1 is placed, read at its place
pub given_at : (placed : List (Option Placed)) (i : ℕ) → is_some (starts placed (i + 1)) ≡ is_some (at placed i)
given_at placed i = ap (λ m. is_some (starts placed m)) (add-one i) ∙ has_start (at placed i)

module _ (windows : List (Option Window)) (placed : List (Option Placed)) where
  module _ (s : RuleSheet) (ok : Sound s) (told : Told s (starts placed) windows) where
    slack_here : (i : ℕ) → i < 31 → (h : ℤ) → slacks_left windows placed i ≡ Some h → Waiting s (starts placed) (i + 1) × IsSlack s (starts placed) (i + 1) h
    slack_here i low h e =
        let tells = slack_tells s (starts placed) (i + 1) (get_or windows i None) (at placed i) h (told.each i low) e in
        (record { there = tells.1; not_placed = given_at placed i ∙ tells.0 }, tells.2)

    -- a waiting step stands at a place with its slack
    waiting_at : (n : ℕ) → Waiting s (starts placed) n → (i : ℕ) × (i < 31) × (i + 1 ≡ n) × (h : ℤ) × (slacks_left windows placed i ≡ Some h)
    waiting_at n waiting =
        let number = step_numbers s ok n waiting.there in
        let low : n - 1 < 31 = omega (arith, number.0, number.1) in
        let same : n - 1 + 1 ≡ n = omega (arith, number.0) in
        let tells = waits_tells s (starts placed) (n - 1 + 1) (get_or windows (n - 1) None) (at placed (n - 1)) (told.each (n - 1) low)
        (subst (HasStep s) (sym same) waiting.there)
        (sym (given_at placed (n - 1)) ∙ ap (λ m. is_some (starts placed m)) same ∙ waiting.not_placed) in
        (n - 1, low, same, tells.0, tells.1)

  none_next : Leader (slacks_left windows placed) 31 None → NamesNext windows placed None
  none_next none s ok told n waiting =
      let found = waiting_at s ok told n waiting in
      absurd (true≢false (sym (ap is_some found.4) ∙ none found.0 found.1))

  leads_next : (held : Candidate) → Leads (slacks_left windows placed) 31 held → NamesNext windows placed (Some (held.place + 1))
  leads_next held lead s ok told =
      let here = slack_here s ok told held.place lead.inside held.slack lead.is in
      record {
        waiting = here.0;
        slack = held.slack;
        is_slack = here.1;
        fewest = λ m waiting hours other.
            let found = waiting_at s ok told m waiting in
            let own = (slack_here s ok told found.0 found.1 found.3 found.4).1 in
            let same = slack_unique s (starts placed) m _ _ (subst (λ k. IsSlack s (starts placed) k found.3) found.2 own) other in
            let low = lead.fewest found.0 found.1 found.3 found.4 in
            omega (arith, ints);
        smallest = λ m less waiting hours other.
            let found = waiting_at s ok told m waiting in
            let own = (slack_here s ok told found.0 found.1 found.3 found.4).1 in
            let same = slack_unique s (starts placed) m _ _ (subst (λ k. IsSlack s (starts placed) k found.3) found.2 own) other in
            let number = found.2 in
            let low = lead.first found.0 (omega arith) found.3 found.4 in
            omega (arith, ints);
      }

  pub names_next : (held : Option Candidate) → Leader (slacks_left windows placed) 31 held → NamesNext windows placed (option_map (λ lead. lead.place + 1) held)
  names_next None none = none_next none
  names_next (Some held) lead = leads_next held lead
