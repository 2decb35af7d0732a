-- Two books, one behind the other. Assumes nothing.
use Rattle.std.proofs.Common.{◌≡◌, ℕ, ◌+◌, ◌-◌, List, [], ◌∷◌, ◌++◌, length, take, drop, sym, refl, ap, ◌∙◌, subst, arith}
use borrow.Rule.Slice.PartMut.{mid_of, put_mid}
use Rattle.std.proofs.lemmas.List.{append-nil, append_assoc, length-append, length-drop, take_all, drop_all, drop-drop}
use Rattle.book.proofs.Walking.{items_walk}
use Rattle.book.specs.Reading.{book_of, place_of}
use Rattle.book.specs.Walks.{Walk, items}
use Rattle.book.specs.declared.reading.Reader.{Reader}
use Rattle.kinds.specs.declared.alone.Hours.{Hours}
use Rattle.sheet.specs.declared.forms.Sheet.{Sheet}
use Rattle.merge.proofs.Only.{merges_only}
use Rattle.merge.specs.Merging.{Merges, Readable, Room, Done}
use Rattle.merge.specs.Turns.{ItemsTaken, BookTaken}
use Rattle.merge.specs.declared.reports.Book.{Book}
use Rattle.merge.specs.declared.reports.Book.TheVariants.{Office, Tablet}
use Rattle.merge.specs.declared.reports.Report.{Report}

-- a reader at the front of a book takes the whole book
pub whole_book : (book : Book) (bytes : List ℕ) (reader : Reader) → book_of reader ≡ bytes → place_of reader ≡ 0 → (sheet after : Sheet) (hours hours_after : List Hours) (reports reports_after : List Report) (count : ℕ)
    → ItemsTaken book (book_of reader) (place_of reader) sheet hours hours_after reports reports_after after count → BookTaken book bytes sheet hours hours_after reports reports_after after count
whole_book book bytes reader same front sheet after hours hours_after reports reports_after count taken = record {
  told = taken.told;
  entered = taken.entered (items bytes) (subst (λ b. Walk b (place_of reader) (items bytes)) (sym same) (subst (λ p. Walk bytes p (items bytes)) (sym front) (items_walk bytes)));
  counted = taken.counted;
  written = taken.written;
  working = taken.working;
}

take_front : {X : Type 0} (xs ys : List X) → take (length xs) (xs ++ ys) ≡ xs
take_front [] ys = refl
take_front (x ∷ xs) ys = ap (λ zs. x ∷ zs) (take_front xs ys)

drop_front : {X : Type 0} (xs ys : List X) → drop (length xs) (xs ++ ys) ≡ ys
drop_front [] ys = refl
drop_front (x ∷ xs) ys = drop_front xs ys

-- reports behind those that stand at the front
behind : {X : Type 0} (a b old : List X) (n m : ℕ) → n ≡ length a → take n (a ++ drop n old) ++ (b ++ drop m (drop n (a ++ drop n old))) ≡ (a ++ b) ++ drop (n + m) old
behind a b old n m e =
    let front : take n (a ++ drop n old) ≡ a = ap (λ k. take k (a ++ drop n old)) e ∙ take_front a (drop n old) in
    let rest : drop n (a ++ drop n old) ≡ drop n old = ap (λ k. drop k (a ++ drop n old)) e ∙ drop_front a (drop n old) in
    let far : drop m (drop n old) ≡ drop (n + m) old = drop-drop m n old in
    ap (λ xs. xs ++ (b ++ drop m (drop n (a ++ drop n old)))) front ∙ ap (λ xs. a ++ (b ++ drop m xs)) rest ∙ ap (λ xs. a ++ (b ++ xs)) far ∙ sym (append_assoc a b (drop (n + m) old))

pub both : (sheet between after : Sheet) (office tablet : List ℕ) (hours hours_between hours_after : List Hours) (reports reports_between reports_after rest_after : List Report) (n m : ℕ)
    → Readable office tablet → Room office tablet (record { hours = hours; reports = reports })
    → BookTaken Office office sheet hours hours_between reports reports_between between n
    → BookTaken Tablet tablet between hours_between hours_after (drop n reports_between) rest_after after m
    → reports_after ≡ take n reports_between ++ rest_after
    → Done sheet office tablet (record { hours = hours; reports = reports }) (n + m) after (record { hours = hours_after; reports = reports_after })
both sheet between after office tablet hours hours_between hours_after reports reports_between reports_after rest_after n m readable room first second is =
    let merges : Merges sheet office tablet after (first.told ++ second.told) =
    record { between = between; by_office = first.told; by_tablet = second.told; first = first.entered; second = second.entered; all = refl } in
    record {
      readable = readable;
      room = room;
      told = first.told ++ second.told;
      merges = merges;
      only = λ other others others_merge. merges_only sheet office tablet after other (first.told ++ second.told) others merges others_merge;
      counted = ap (λ k. k + m) first.counted ∙ ap (λ k. length first.told + k) second.counted ∙ sym (length-append first.told second.told);
      written = is ∙ ap (λ xs. take n reports_between ++ xs) second.written ∙ ap (λ xs. take n xs ++ (second.told ++ drop m (drop n xs))) first.written ∙ behind first.told second.told reports n m first.counted;
      working = second.working ∙ first.working;
    }

module _ {X : Type 0} (n : ℕ) (xs : List X) where
  -- the part of a list from a place to its end
  pub part_is : mid_of n (length xs - n) xs ≡ drop n xs
  part_is = take_all (length xs - n) (drop n xs) (omega (arith, length-drop n xs))

  -- a list with another end from a place on
  pub end_is : (ys : List X) → put_mid n (length xs - n) xs ys ≡ take n xs ++ ys
  end_is ys = ap (λ zs. take n xs ++ (ys ++ zs)) (drop_all (length xs - n) (drop n xs) (omega (arith, length-drop n xs))) ∙ ap (λ zs. take n xs ++ zs) (append-nil ys)
