-- Windows that narrow with a start placed, as lists. Assumes nothing.
use Rattle.std.proofs.Common.{◌≡◌, ℕ, zero, suc, ◌+◌, ◌<◌, ◌≤◌, List, length, get_or, ℤ, pos, ◌+ℤ◌, ◌-ℤ◌, ◌≤ℤ◌, Some, None, Option, sym, refl, ap, ◌∙◌, subst, add-one, arith}
use mathlib.Core.Logic.{∥∥₁_elim, ∥∥₁_prop}
use Rattle.std.specs.Int.{int_max, int_min}
use Rattle.std.specs.Option.{option_map}
use Rattle.std.proofs.lemmas.Int.{ints}
use Rattle.std.proofs.lemmas.Bool.{true≢false}
use Rattle.plan.specs.Told.{Tells, Told, Within, Narrows, narrowed}
use Rattle.plan.specs.declared.window.Window.{Window}
use Rattle.sheet.specs.Limits.{Sound}
use Rattle.sheet.specs.Sheets.{RuleSheet, HasStep, numbered}
use Rattle.sheet.specs.Timetables.{Timetable, Lawful}
use Rattle.walks.proofs.LinkLaws.{step_present}
use Rattle.windows.specs.Windows.{entry, with_start, Agrees, IsWindow}
use Rattle.windows.proofs.Narrowing.{Windows, narrowed_windows}
use Rattle.windows.proofs.Steps.{step_numbers}

abbrev pub first_of : Option Window → ℤ
first_of None = pos 0
first_of (Some w) = w.first

abbrev pub last_of : Option Window → ℤ
last_of None = pos 0
last_of (Some w) = w.last

pub tells_window : (s : RuleSheet) (placed : Timetable) (n : ℕ) (o : Option Window) → Tells s placed n o → HasStep s n → IsWindow s placed n (first_of o) (last_of o)
tells_window s placed n None absent there = absurd (true≢false (sym there ∙ absent))
tells_window s placed n (Some w) told there = told.1

-- what a list tells of step n
pub told_at : (s : RuleSheet) (placed : Timetable) (windows : List (Option Window)) → Told s placed windows → (n : ℕ) → 1 ≤ n → n ≤ 31 → Tells s placed n (numbered None windows n)
told_at s placed windows told zero low high = absurd (omega arith)
told_at s placed windows told (suc n) low high = subst (λ m. Tells s placed m (get_or windows n None)) (add-one n) (told.each n (omega arith))

-- hour zero is at hour zero
zero_window : (s : RuleSheet) (placed : Timetable) → ∥ ((t : Timetable) × Lawful s t × Agrees placed t) ∥₁ → IsWindow s placed 0 (pos 0) (pos 0)
zero_window s placed some = record {
  from = record {
    attained = ∥∥₁_elim some ∥∥₁_prop (λ way. ∣ (way.0, way.1, way.2, refl) ∣₁);
    least = λ t _ _. omega (arith, ints);
  };
  to = record {
    attained = ∥∥₁_elim some ∥∥₁_prop (λ way. ∣ (way.0, way.1, way.2, refl) ∣₁);
    greatest = λ t _ _. omega (arith, ints);
  };
}

pub told_windows : (s : RuleSheet) → Sound s → (placed : Timetable) (windows : List (Option Window)) → Told s placed windows → (x : ℕ) → HasStep s x → Windows s placed (λ n. first_of (numbered None windows n)) (λ n. last_of (numbered None windows n))
told_windows s ok placed windows told x here zero there =
    let number = step_numbers s ok x here in
    let window = tells_window s placed x _ (told_at s placed windows told x number.0 number.1) here in
    zero_window s placed (∥∥₁_elim window.from.attained ∥∥₁_prop (λ way. ∣ (way.0, way.1, way.2) ∣₁))
told_windows s ok placed windows told x here (suc n) there =
    let number = step_numbers s ok (suc n) there in
    tells_window s placed (suc n) _ (told_at s placed windows told (suc n) number.0 number.1) there

tells_after : (s : RuleSheet) (placed after : Timetable) (chart : List ℤ) (n hour m : ℕ) (o : Option Window) → Tells s placed m o
    → (HasStep s m → IsWindow s after m (int_max (first_of o) (pos hour +ℤ entry chart n m)) (int_min (last_of o) (pos hour -ℤ entry chart m n)))
    → Tells s after m (option_map (narrowed chart n hour m) o)
tells_after s placed after chart n hour m None absent window = absent
tells_after s placed after chart n hour m (Some w) told window = (told.0, window told.0)

within_of : (windows : List (Option Window)) (n : ℕ) (hour : ℤ) (o : Option Window) → numbered None windows n ≡ o → (s : RuleSheet) (placed : Timetable) → Tells s placed n o → HasStep s n → Within windows n hour → (first_of o ≤ℤ hour) × (hour ≤ℤ last_of o)
within_of windows n hour None is s placed absent there within = absurd (true≢false (sym there ∙ absent))
within_of windows n hour (Some w) is s placed told there within = within w is

pub narrows : (chart : List ℤ) (n hour : ℕ) (before after : List (Option Window)) → length after ≡ 31
    → ((i : ℕ) → i < 31 → get_or after i None ≡ option_map (narrowed chart n hour (i + 1)) (get_or before i None))
    → Narrows chart n hour before after
narrows chart n hour before after long each s ok is placed told waiting within =
    let there = waiting.there in
    let number = step_numbers s ok n there in
    let in_window = within_of before n (pos hour) (numbered None before n) refl s placed (told_at s placed before told n number.0 number.1) there within in
    let windows = narrowed_windows s ok chart is placed (λ m. first_of (numbered None before m)) (λ m. last_of (numbered None before m)) (told_windows s ok placed before told n there) n there (pos hour) in_window.0 in_window.1 waiting.not_placed in
    let new = with_start placed n (pos hour) in
    record {
      long = long;
      each = λ i low.
          let next : numbered None before (i + 1) ≡ get_or before i None = ap (numbered None before) (add-one i) in
          subst (Tells s new (i + 1)) (sym (each i low))
          (tells_after s placed new chart n hour (i + 1) (get_or before i None) (told.each i low)
          (λ here. subst (λ o. IsWindow s new (i + 1) (int_max (first_of o) (pos hour +ℤ entry chart n (i + 1))) (int_min (last_of o) (pos hour -ℤ entry chart (i + 1) n))) next (windows (i + 1) (step_present s (i + 1) here))));
    }
