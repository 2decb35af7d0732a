-- From one stage of filling to the next. Assumes nothing.
use Rattle.std.proofs.Common.{◌≡◌, ℕ, ◌+◌, ◌-◌, ◌<◌, ◌≤◌, false, cond, not, List, get_or, set, replicate, ℤ, pos, ◌≤ℤ◌, is_some, is_none, Some, None, Option, sym, ap, ◌∙◌, subst, arith, length-set}
use Rattle.std.proofs.lemmas.List.{length-replicate}
use Rattle.std.proofs.lemmas.Int.{ints}
use Rattle.std.proofs.lemmas.List.Sums.{sum_by-set}
use Rattle.choose.specs.Choosing.{HourRule}
use Rattle.plan.specs.Stages.{Stage, Chosen, left_over}
use Rattle.plan.specs.Told.{Tells, Told, Within, Narrows}
use Rattle.plan.specs.declared.window.Window.{Window}
use Rattle.plan.proofs.Narrowings.{told_at}
use Rattle.plan.proofs.Nexts.{given_at}
use Rattle.sheet.proofs.Numbered.{replaced_write}
use Rattle.sheet.specs.Edits.{replaced}
use Rattle.sheet.specs.Limits.{SoundSheet}
use Rattle.sheet.specs.Sheets.{RuleSheet}
use Rattle.sheet.specs.Timetables.{Timetable}
use Rattle.sheet.specs.Waits.{IsChart}
use Rattle.vessels.specs.Vessels.{at}
use Rattle.vessels.specs.declared.placed.Placed.{Placed}
use Rattle.windows.specs.Placing.{starts, view_of, Reached, nothing, further}
use Rattle.windows.specs.Windows.{nothing_placed, with_start, IsWindow, IsNext}
use Rattle.windows.proofs.Single.{first_unique, last_unique}
use Rattle.windows.proofs.Steps.{starts_more, starts_none, named_hour, window_ordered, window_from_zero, window_in_span}

-- the window that stands at a step's place
window_at : (s : RuleSheet) (placed : Timetable) (windows : List (Option Window)) → Told s placed windows → (n : ℕ) → 0 < n → n ≤ 31 → (w : Window) → get_or windows (n - 1) None ≡ Some w → IsWindow s placed n w.first w.last
window_at s placed windows told n some few w is =
    let here = subst (Tells s placed (n - 1 + 1)) is (told.each (n - 1) (omega arith)) in
    let same : n - 1 + 1 ≡ n = omega arith in
    subst (λ m. IsWindow s placed m w.first w.last) same here.1

-- the hours of a window of a sound sheet
window_small : (sheet : SoundSheet) (placed : Timetable) (n : ℕ) (first last : ℤ) → IsWindow sheet.told placed n first last → (pos 0 ≤ℤ first) × (first ≤ℤ last) × (last ≤ℤ pos 2000)
window_small sheet placed n first last w =
    let high = window_in_span sheet.told placed n first last w in
    let limit = sheet.sound.span.1 in
    (window_from_zero sheet.told placed n first last w, window_ordered sheet.told placed n first last w, omega (arith, ints))

-- the window that stands at a step's place of a sound sheet
pub window_fits : (sheet : SoundSheet) (placed : Timetable) (windows : List (Option Window)) → Told sheet.told placed windows → (n : ℕ) → 0 < n → n ≤ 31 → (w : Window) → get_or windows (n - 1) None ≡ Some w → (pos 0 ≤ℤ w.first) × (w.first ≤ℤ w.last) × (w.last ≤ℤ pos 2000)
window_fits sheet placed windows told n some few w is = window_small sheet placed n _ _ (window_at sheet.told placed windows told n some few w is)

pub first_stage : (s : RuleSheet) (rule : HourRule) (windows : List (Option Window)) → Told s nothing_placed windows → Stage s rule windows (replicate 31 None)
first_stage s rule windows told = record {
  reached = nothing;
  told = subst (λ t. Told s t windows) (sym starts_none) told;
  long = length-replicate {A = Option Placed} 31 None;
}

module _ (sheet : SoundSheet) (rule : HourRule) (chart : List ℤ) (is_chart : IsChart sheet.told chart) (windows after : List (Option Window)) (placed : List (Option Placed)) (n : ℕ) (step : Placed) (stage : Stage sheet.told rule windows placed) (next : IsNext sheet.told (starts placed) n) (some : 0 < n) (few : n ≤ 31) (chosen : Chosen sheet.told rule placed n step) (narrows : Narrows chart n step.start windows after) where
  is_hour : step.start ≡ rule.hour (view_of sheet.told placed n chosen.duration chosen.kind chosen.first chosen.last)
  is_hour = ap (λ p. p.start) chosen.is

  in_window : (chosen.first ≤ step.start) × (step.start ≤ chosen.last)
  in_window =
      let named = named_hour sheet.told sheet.sound chart is_chart rule placed n chosen.duration chosen.kind chosen.first chosen.last chosen.window in
      (omega (arith, is_hour, named.0), omega (arith, is_hour, named.1))

  within : Within windows n (pos step.start)
  within w is =
      let here = (subst (Tells sheet.told (starts placed) n) is (told_at sheet.told (starts placed) windows stage.told n (omega arith) few)).1 in
      let firsts = first_unique sheet.told (starts placed) n _ _ here.from chosen.window.from in
      let lasts = last_unique sheet.told (starts placed) n _ _ here.to chosen.window.to in
      let low = in_window.0 in
      let high = in_window.1 in
      (omega (arith, ints), omega (arith, ints))

  same_list : replaced placed n (Some step) ≡ set placed (n - 1) (Some step)
  same_list = sym (replaced_write None placed n (Some step) some)

  pub next_stage : Stage sheet.told rule after (set placed (n - 1) (Some step))
  next_stage =
      let long = stage.long in
      let starts_now : starts (set placed (n - 1) (Some step)) ≡ with_start (starts placed) n (pos step.start) =
      ap starts (sym same_list) ∙ starts_more placed n step.start step.duration step.kind (omega arith) (omega arith) in
      record {
        reached = subst (Reached sheet.told rule) (ap (λ new. replaced placed n (Some new)) (sym chosen.is) ∙ same_list)
            (further placed n chosen.duration chosen.kind chosen.first chosen.last stage.reached next chosen.told chosen.window);
        told = subst (λ t. Told sheet.told t after) (sym starts_now) (narrows sheet.told sheet.sound is_chart (starts placed) stage.told next.waiting within);
        long = length-set placed (n - 1) (Some step) ∙ long;
      }

  pub next_fewer : left_over (set placed (n - 1) (Some step)) < left_over placed
  next_fewer =
      let long = stage.long in
      let waits : is_some (at placed (n - 1)) ≡ false =
      sym (given_at placed (n - 1)) ∙ ap (λ m. is_some (starts placed m)) (omega arith) ∙ next.waiting.not_placed in
      let before : cond {A = ℕ} (is_none (at placed (n - 1))) 1 0 ≡ 1 = ap (λ b. cond {A = ℕ} (not b) 1 0) waits in
      omega (arith, sum_by-set (λ p. cond (is_none p) 1 0) placed (n - 1) (Some step) None (omega arith))
