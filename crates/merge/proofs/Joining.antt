-- Items entered one after another, and the reports on them. Assumes nothing.
use Rattle.std.proofs.Common.{◌≡◌, ℕ, suc, ◌+◌, ◌<◌, List, [], ◌∷◌, ◌++◌, length, drop, set, Some, None, Option, sym, refl, ap, ◌∙◌, subst, arith}
use Rattle.std.proofs.lemmas.List.{append-nil, append_assoc, length-append}
use Rattle.book.specs.Reading.{Item}
use Rattle.sheet.specs.declared.forms.Sheet.{Sheet}
use Rattle.merge.specs.Books.{Answered, EnteredAll, noted, offset_in}
use Rattle.merge.specs.Turns.{with_note, count_after}
use Rattle.merge.specs.declared.reports.Book.{Book}
use Rattle.merge.specs.declared.reports.Report.{Report}

module _ (book : Book) where
  -- one item more at the end
  pub entered_more : (sheet : Sheet) (items : List Item) (between : Sheet) (told : List Report) → EnteredAll book sheet items between told → (item : Item) (answer : Option ℕ) (after : Sheet) → Answered between item answer after → EnteredAll book sheet (items ++ (item ∷ [])) after (told ++ noted book item answer)
  entered_more sheet [] between told entered item answer after answered =
      let here = subst (λ x. Answered x item answer after) entered.0 answered in
      (after, answer, [], here, (refl, refl), ap (λ xs. xs ++ noted book item answer) entered.1 ∙ sym (append-nil (noted book item answer)))
  entered_more sheet (first ∷ items) between told entered item answer after answered =
      let next = entered.0 in
      let later = entered.2 in
      (next, entered.1, later ++ noted book item answer, entered.3, entered_more next items between later entered.4 item answer after answered, ap (λ xs. xs ++ noted book item answer) entered.5 ∙ append_assoc (noted book first entered.1) later (noted book item answer))

-- the front of a list, with one entry more behind it
set_behind : {X : Type 0} (told old : List X) (x : X) → length told < length old → set (told ++ drop (length told) old) (length told) x ≡ (told ++ (x ∷ [])) ++ drop (suc (length told)) old
set_behind [] [] x room = absurd (omega arith)
set_behind [] (y ∷ old) x room = refl
set_behind (t ∷ told) [] x room = absurd (omega arith)
set_behind (t ∷ told) (y ∷ old) x room = ap (λ ys. t ∷ ys) (set_behind told old x (omega arith))

module _ (book : Book) (item : Item) (told old : List Report) (count : ℕ) (counted : count ≡ length told) (room : count < length old) where
  -- the reports after an item, told at the front of their buffer
  pub noted_more : (answer : Option ℕ) → with_note book item answer (told ++ drop count old) count ≡ (told ++ noted book item answer) ++ drop (count_after answer count) old
  noted_more None = ap (λ xs. xs ++ drop count old) (sym (append-nil told))
  noted_more (Some number) =
      let report : Report = record { book = book; offset = offset_in item; number = number } in
      let place : suc count ≡ count + 1 = omega arith in
      subst (λ n. set (told ++ drop count old) count report ≡ (told ++ (report ∷ [])) ++ drop n old) place
      (subst (λ n. set (told ++ drop n old) n report ≡ (told ++ (report ∷ [])) ++ drop (suc n) old) (sym counted)
      (set_behind told old report (subst (λ n. n < length old) counted room)))

  pub count_more : (answer : Option ℕ) → count_after answer count ≡ length (told ++ noted book item answer)
  count_more None = counted ∙ sym (length-append told [] ∙ sum)
    where
      sum : length told + 0 ≡ length told
      sum = omega arith
  count_more (Some number) = ap (λ n. n + 1) counted ∙ sym (length-append told (noted book item (Some number)))
