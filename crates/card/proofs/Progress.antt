-- How far a card has been judged. Assumes nothing.
use Rattle.std.proofs.Common.{◌≡◌, ℕ, List, ◌∷◌, Some, None, Ok, Err, refl, ap, ◌∙◌}
use Rattle.book.proofs.Walking.{walk_next, walk_ends}
use Rattle.book.specs.Reading.{Item, Placed, next, onward}
use Rattle.book.specs.Walks.{Walk}
use Rattle.book.specs.declared.faults.Fault.{Fault}
use Rattle.changes.proofs.Kept.{asked_sound, empty_sound}
use Rattle.changes.specs.Changes.{asked}
use Rattle.changes.specs.Tests.{has}
use Rattle.sheet.specs.Edits.{empty_sheet}
use Rattle.sheet.specs.Limits.{FullSound}
use Rattle.sheet.specs.declared.forms.Sheet.{Sheet}
use Rattle.card.specs.Cards.{faulty, ended, ruling, by_ruling, judged}
use Rattle.card.specs.Faults.{from_book}
use Rattle.card.specs.Told.{ruling_passed}
use Rattle.card.specs.declared.faults.CardFault.{CardFault}
use Rattle.card.specs.declared.order.Stage.{Stage}
use Rattle.card.specs.declared.order.Stage.TheVariants.{Period}

-- the commands between two places of a card led to a stage and a sheet, and the verdict is what the rest comes to
pub record Reached (book : List ℕ) (end start place : ℕ) (stage : Stage) (sheet : Sheet) : Type 0 where
  pub sound : FullSound sheet
  pub along : (all : List Item) → Walk book start all → (rest : List Item) × Walk book place rest × (judged end Period empty_sheet all ≡ judged end stage sheet rest)

pub at_start : {book : List ℕ} {end start : ℕ} → Reached book end start start Period empty_sheet
at_start = record { sound = empty_sound; along = λ all w. (all, w, refl) }

module _ {book : List ℕ} {end start place : ℕ} {stage : Stage} {sheet : Sheet} (reached : Reached book end start place stage sheet) where
  -- the verdict, where an item comes next
  judged_next : (item : Item) → next book place ≡ Some item → (all : List Item) → Walk book start all → (rest : List Item) × Walk book (onward book place) rest × (judged end Period empty_sheet all ≡ judged end stage sheet (item ∷ rest))
  judged_next item some all w =
      let here = reached.along all w in
      let then = walk_next book item here.1 some in
      (then.0, then.2, here.2 ∙ ap (judged end stage sheet) then.1)

  module _ (entry : Placed) (some : next book place ≡ Some (Ok entry)) where
    pub go_on : (later : Stage) → ruling stage (has sheet) entry ≡ Ok later → Reached book end start (onward book place) later (asked sheet entry.instruction)
    go_on later passed = record {
      sound = asked_sound sheet reached.sound entry.instruction (ruling_passed stage (has sheet) entry later passed);
      along = λ all w.
          let here = judged_next (Ok entry) some all w in
          (here.0, here.1, here.2 ∙ ap (λ r. by_ruling r (λ s. judged end s (asked sheet entry.instruction) here.0)) passed);
    }

    pub stopped : (fault : CardFault) → ruling stage (has sheet) entry ≡ Err fault → (all : List Item) → Walk book start all → judged end Period empty_sheet all ≡ faulty fault
    stopped fault told all w =
        let here = judged_next (Ok entry) some all w in
        here.2 ∙ ap (λ r. by_ruling r (λ s. judged end s (asked sheet entry.instruction) here.0)) told

  pub unread : (fault : Fault) → next book place ≡ Some (Err fault) → (all : List Item) → Walk book start all → judged end Period empty_sheet all ≡ faulty (from_book fault)
  unread fault some all w = (judged_next (Err fault) some all w).2

  pub at_end : next book place ≡ None → (all : List Item) → Walk book start all → judged end Period empty_sheet all ≡ ended end stage sheet
  at_end none all w =
      let here = reached.along all w in
      here.2 ∙ ap (judged end stage sheet) (walk_ends book here.1 none)
