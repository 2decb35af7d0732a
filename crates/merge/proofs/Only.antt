-- The rules make one thing only of a command, of a book and of two books. Assumes nothing.
use Rattle.std.proofs.Common.{◌≡◌, ℕ, List, [], ◌∷◌, ◌++◌, Some, None, Ok, Err, Option, sym, refl, ap, ◌∙◌, subst}
use Rattle.book.specs.Commands.{Instruction}
use Rattle.book.specs.Reading.{Item}
use Rattle.book.specs.Walks.{items}
use Rattle.planner.specs.Rules.{Outcome}
use Rattle.sheet.specs.declared.forms.Sheet.{Sheet}
use Rattle.merge.specs.Books.{Answered, EnteredAll, noted}
use Rattle.merge.specs.Merging.{Merges}
use Rattle.merge.specs.declared.reports.Book.{Book}
use Rattle.merge.specs.declared.reports.Book.TheVariants.{Office, Tablet}
use Rattle.merge.specs.declared.reports.Report.{Report}

pub outcome_only : (sheet : Sheet) (i : Instruction) (a b : Option ℕ) (x y : Sheet) → Outcome sheet i a x → Outcome sheet i b y → (a ≡ b) × (x ≡ y)
outcome_only sheet i None None x y p q = (refl, p.becomes ∙ sym q.becomes)
outcome_only sheet i None (Some n) x y p q = absurd (q.impossible p.no_fault p.possible)
outcome_only sheet i (Some n) None x y p q = absurd (p.impossible q.no_fault q.possible)
outcome_only sheet i (Some n) (Some m) x y p q = (ap Some (p.numbered ∙ sym q.numbered), p.stays ∙ sym q.stays)

answered_only : (sheet : Sheet) (item : Item) (a b : Option ℕ) (x y : Sheet) → Answered sheet item a x → Answered sheet item b y → (a ≡ b) × (x ≡ y)
answered_only sheet (Ok placed) a b x y p q = outcome_only sheet placed.instruction a b x y p q
answered_only sheet (Err fault) a b x y p q = (p.0 ∙ sym q.0, p.1 ∙ sym q.1)

module _ (book : Book) where
  pub entered_only : (sheet : Sheet) (all : List Item) (x y : Sheet) (told said : List Report) → EnteredAll book sheet all x told → EnteredAll book sheet all y said → (x ≡ y) × (told ≡ said)
  entered_only sheet [] x y told said p q = (p.0 ∙ sym q.0, p.1 ∙ sym q.1)
  entered_only sheet (item ∷ rest) x y told said p q =
      let same = answered_only sheet item p.1 q.1 p.0 q.0 p.3 q.3 in
      let later = entered_only q.0 rest x y p.2 q.2 (subst (λ s. EnteredAll book s rest x p.2) same.1 p.4) q.4 in
      (later.0, p.5 ∙ ap (λ a. noted book item a ++ p.2) same.0 ∙ ap (λ xs. noted book item q.1 ++ xs) later.1 ∙ sym q.5)

pub merges_only : (sheet : Sheet) (office tablet : List ℕ) (x y : Sheet) (told said : List Report) → Merges sheet office tablet x told → Merges sheet office tablet y said → (y ≡ x) × (said ≡ told)
merges_only sheet office tablet x y told said p q =
    let first = entered_only Office sheet (items office) q.between p.between q.by_office p.by_office q.first p.first in
    let second = entered_only Tablet p.between (items tablet) y x q.by_tablet p.by_tablet (subst (λ s. EnteredAll Tablet s (items tablet) y q.by_tablet) first.0 q.second) p.second in
    (second.0, q.all ∙ ap (λ xs. xs ++ q.by_tablet) first.1 ∙ ap (λ xs. p.by_office ++ xs) second.1 ∙ sym p.all)
