-- One call of a run, and what is noted of it. Assumes nothing.
use Rattle.std.proofs.Common.{◌≡◌, ℕ, List, [], ◌∷◌, ◌++◌, IfOk, Some, None, Ok, Err, Result, sym, refl}
use Rattle.std.proofs.lemmas.List.{append-nil}
use Rattle.book.specs.Commands.{Instruction}
use Rattle.planner.specs.Rules.{Outcome}
use Rattle.sheet.specs.declared.forms.Sheet.{Sheet}
use Rattle.runs.specs.Runs.{enters}
use Rattle.runs.specs.Turns.{CallTaken}
use Rattle.runs.specs.declared.calls.Note.{Note}
use Rattle.runs.specs.declared.calls.Note.TheVariants.{Refused}

module _ (sheet after : Sheet) (call : ℕ) (before : List Note) where
  pub nothing_noted : (i : Instruction) → Outcome sheet i None after → CallTaken sheet (enters i) call before before after
  nothing_noted i comes = record { told = []; done = (None, comes, refl); added = sym (append-nil before) }

  pub refusal_noted : {E : Type 0} (i : Instruction) (number : ℕ) (notes : List Note) (r : Result (Unit {0}) E) → Outcome sheet i (Some number) after → IfOk r (λ _. notes ≡ before ++ (Refused call number ∷ [])) → IfOk r (λ _. CallTaken sheet (enters i) call before notes after)
  refusal_noted i number notes (Ok done) comes e = record { told = Refused call number ∷ []; done = (Some number, comes, refl); added = e }
  refusal_noted i number notes (Err why) comes e = tt
