-- A chooser's rule leads to one way of filling in the steps. Assumes nothing.
use Rattle.std.proofs.Common.{◌≡◌, ℕ, suc, ◌<◌, List, pos, Some, Option, unwrap_or, sym, refl, ap, ◌∙◌, subst, ⊎_elim, arith}
use Rattle.std.proofs.lemmas.Int.{ints}
use Rattle.std.proofs.lemmas.Bool.{cases_order}
use Rattle.choose.specs.Choosing.{HourRule}
use Rattle.sheet.specs.Edits.{replaced}
use Rattle.sheet.specs.Sheets.{RuleSheet, step_at}
use Rattle.vessels.specs.declared.placed.Placed.{Placed}
use Rattle.windows.specs.Placing.{starts, view_of, placed_at, Reached, nothing, further, Filled}
use Rattle.windows.specs.Windows.{IsWindow, Waiting, IsNext}
use Rattle.windows.proofs.Single.{first_unique, last_unique, next_unique}

same_record : (a b : ℕ × ℕ) → Some a ≡ Some b → a ≡ b
same_record a b e = ap (λ o. unwrap_or o a) e

module _ (s : RuleSheet) (rule : HourRule) where
  -- how many steps were placed on the way
  abbrev steps_placed : (placed : List (Option Placed)) → Reached s rule placed → ℕ
  steps_placed placed nothing = 0
  steps_placed placed (further old n duration kind first last reached next told window) = suc (steps_placed old reached)

  same_course : (a b : List (Option Placed)) (p : Reached s rule a) (q : Reached s rule b) → steps_placed a p ≡ steps_placed b q → a ≡ b
  same_course a b nothing nothing e = refl
  same_course a b nothing (further old n duration kind first last reached next told window) e = absurd (omega arith)
  same_course a b (further old n duration kind first last reached next told window) nothing e = absurd (omega arith)
  same_course a b (further old n duration kind first last reached next told window) (further old' n' duration' kind' first' last' reached' next' told' window') e =
      let olds : old ≡ old' = same_course old old' reached reached' (omega arith) in
      let ns : n ≡ n' = next_unique s (starts old') n n' (subst (λ o. IsNext s (starts o) n) olds next) next' in
      let records = same_record (duration, kind) (duration', kind') (sym told ∙ ap (step_at s) ns ∙ told') in
      let moved = subst (λ m. IsWindow s (starts old') m (pos first) (pos last)) ns (subst (λ o. IsWindow s (starts o) n (pos first) (pos last)) olds window) in
      let one = first_unique s (starts old') n' _ _ moved.from window'.from in
      let other = last_unique s (starts old') n' _ _ moved.to window'.to in
      let firsts : first ≡ first' = omega (arith, ints) in
      let lasts : last ≡ last' = omega (arith, ints) in
      λ i. replaced (olds i) (ns i) (Some (placed_at (rule.hour (view_of s (olds i) (ns i) (records i).0 (records i).1 (firsts i) (lasts i))) (records i).0 (records i).1))

  -- where fewer steps are placed, one is still waiting
  goes_on : (a b : List (Option Placed)) (p : Reached s rule a) (q : Reached s rule b) → steps_placed a p < steps_placed b q → ((n : ℕ) → Waiting s (starts a) n → ⊥) → ⊥
  goes_on a b p nothing less none = absurd (omega arith)
  goes_on a b p (further old n duration kind first last reached next told window) less none =
      ⊎_elim
      (λ same. none n (subst (λ o. Waiting s (starts o) n) (sym (same_course a old p reached same)) next.waiting))
      (⊎_elim (λ fewer. goes_on a old p reached fewer none) (λ more. absurd (omega arith)))
      (cases_order (steps_placed a p) (steps_placed old reached))

  pub filled_unique : (a b : List (Option Placed)) → Filled s rule a → Filled s rule b → a ≡ b
  filled_unique a b p q =
      ⊎_elim
      (λ same. same_course a b p.reached q.reached same)
      (⊎_elim
      (λ less. absurd (goes_on a b p.reached q.reached less p.none_left))
      (λ more. absurd (goes_on b a q.reached p.reached more q.none_left)))
      (cases_order (steps_placed a p.reached) (steps_placed b q.reached))
