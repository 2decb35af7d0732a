-- What a search for a loop tells, by its answer. Assumes nothing.
use Rattle.std.proofs.Common.{◌≡◌, ℕ, List, Some, None, Option, Ok, subst}
use mathlib.Core.Logic.{∥∥₁_elim}
use Rattle.sheet.specs.Sheets.{RuleSheet}
use Rattle.sheet.specs.Timetables.{Timetable, Lawful}
use Rattle.loops.specs.Loops.{LoopWritten, RestKept, Searched}

module _ {E : Type 0} (s : RuleSheet) (cells cells_after : List E) (codes codes_after : List ℕ) (found : Option ℕ)
    (searched : Searched s cells cells_after codes codes_after (Ok found)) where
  -- no loop: there is a lawful timetable
  pub none_found : found ≡ None → ((t : Timetable) → Lawful s t → ⊥) → ⊥
  none_found is none =
      let some = subst (λ o. Searched s cells cells_after codes codes_after (Ok o)) is searched in
      ∥∥₁_elim some.0 (λ x y. absurd x) (λ timetable. none timetable.0 timetable.1)

  pub one_found : (count : ℕ) → found ≡ Some count → RestKept cells cells_after × LoopWritten s codes codes_after count
  one_found count is = subst (λ o. Searched s cells cells_after codes codes_after (Ok o)) is searched
