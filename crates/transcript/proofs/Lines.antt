-- The lines of a walk, one after another. Assumes nothing.
use Rattle.std.proofs.Common.{◌≡◌, ℕ, List, [], ◌∷◌, ◌++◌, Some, None, Ok, Err, Result, sym, refl, ap, ◌∙◌, subst, append_assoc, append-nil, arith}
use Rattle.std.proofs.lemmas.List.{flat_map_more}
use Rattle.std.specs.List.{flat_map}
use Rattle.book.proofs.Walking.{one_way}
use Rattle.book.specs.Reading.{Item, item_of, next, onward, book_of, place_of, Opened, Stepped}
use Rattle.book.specs.Walks.{Walk, ends, tells}
use Rattle.book.specs.declared.faults.Fault.{Fault}
use Rattle.book.specs.declared.reading.Entry.{Entry}
use Rattle.book.specs.declared.reading.Reader.{Reader}
use Rattle.transcript.specs.Listings.{Told, walked, refused, Continued, Extended, OneListing}
use Rattle.transcript.specs.Sentences.{line}

-- the lines of the items between two places of a book were added to a text
pub record Sofar (before book : List ℕ) (start place : ℕ) (text : List ℕ) : Type 0 where
  pub seen : List Item
  pub lines : text ≡ before ++ flat_map line seen
  pub walk : (rest : List Item) → Walk book place rest → Walk book start (seen ++ rest)

module _ {before : List ℕ} where
  pub none_yet : {book : List ℕ} {start : ℕ} → Sofar before book start start before
  none_yet = record { seen = []; lines = sym (append-nil before); walk = λ rest w. w }

  pub one_more : {book : List ℕ} {start : ℕ} {text longer : List ℕ} {reader further : Reader} {item : Result Entry Fault} → book_of reader ≡ book → Sofar before book start (place_of reader) text → Stepped reader (Some item) further → longer ≡ text ++ line (item_of item) → Sofar before book start (place_of further) longer
  one_more {book} {start} {text} {longer} {reader} {further} {item} same old step added =
      let told = item_of item in
      let next_is : next book (place_of reader) ≡ Some told = subst (λ b. next b (place_of reader) ≡ Some told) same (sym step.item) in
      let here : place_of further ≡ onward book (place_of reader) = step.place ∙ ap (λ b. onward b (place_of reader)) same in
      record {
        seen = old.seen ++ (told ∷ []);
        lines = added ∙ ap (λ t. t ++ line told) old.lines ∙ flat_map_more line before old.seen told;
        walk = λ rest w.
            subst (Walk book start) (sym (append_assoc old.seen (told ∷ []) rest))
            (old.walk (told ∷ rest) (tells next_is (subst (λ p. Walk book p rest) here w)));
      }

  pub no_more : {book : List ℕ} {start : ℕ} {text : List ℕ} {reader further : Reader} → book_of reader ≡ book → Sofar before book start (place_of reader) text → Stepped reader None further → Continued before book start text
  no_more {book} {start} {text} {reader} same old step = record {
    items = old.seen;
    walk = subst (Walk book start) (append-nil old.seen) (old.walk [] (ends (subst (λ b. next b (place_of reader) ≡ None) same (sym step.item))));
    lines = old.lines;
  }

-- a book was opened, and its lines added
pub opened_extends : {before book after : List ℕ} (reader : Reader) → Opened book (Ok reader) → Continued before (book_of reader) (place_of reader) after → Extended before book after
opened_extends {before} {book} {after} reader opened more =
    let w : Walk book (place_of reader) more.items = subst (λ b. Walk b (place_of reader) more.items) opened.1 more.walk in
    record { items = more.items; told = walked opened.0 (subst (λ p. Walk book p more.items) opened.2 w); lines = more.lines }

-- a book was refused, and its fault added
pub refused_extends : {before book after : List ℕ} (fault : Fault) → Opened book (Err fault) → after ≡ before ++ line (Err fault) → Extended before book after
refused_extends {before} {book} {after} fault opened more = record {
  items = Err fault ∷ [];
  told = subst (λ f. Told book (Err f ∷ [])) (sym opened.1) (refused opened.0);
  lines = more ∙ ap (λ l. before ++ l) (sym (append-nil (line (Err fault))));
}

told_once : {book : List ℕ} {items others : List Item} → Told book items → Told book others → items ≡ others
told_once {book} (walked few w) (walked few' w') = one_way book w w'
told_once (walked few w) (refused many) = absurd (omega arith)
told_once (refused many) (walked few w) = absurd (omega arith)
told_once (refused many) (refused many') = refl

extended_once : {before book after other : List ℕ} → Extended before book after → Extended before book other → after ≡ other
extended_once {before} a b = a.lines ∙ ap (λ items. before ++ flat_map line items) (told_once a.told b.told) ∙ sym b.lines

pub listed_once : {office tablet : List ℕ} → OneListing office tablet
listed_once text other a b = a.whole ∙ (λ i. extended_once a.of_office b.of_office i ++ extended_once a.of_tablet b.of_tablet i) ∙ sym b.whole
