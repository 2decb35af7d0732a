-- The turns of a merge through one book. Assumes nothing.
use Rattle.std.proofs.Common.{◌≡◌, ℕ, ◌+◌, ◌*◌, ◌<◌, ◌≤◌, List, [], ◌∷◌, ◌++◌, length, drop, is_some, Some, None, Ok, Err, Option, Result, sym, refl, ap, ◌∙◌, subst, ⊎_elim, arith, lit≤}
use Rattle.std.proofs.lemmas.List.{append-nil, append_assoc}
use Rattle.std.proofs.lemmas.Bool.{cases_lt, true≢false}
use Rattle.book.proofs.Walking.{onward_inside, next_past, one_way}
use Rattle.book.specs.Commands.{Instruction, add_step, remove_step, set_duration, put_after, put_within, put_at, remove_rule, set_period, set_span, set_vessels, width, decoded}
use Rattle.book.specs.Reading.{Item, item_of, next, onward, behind, book_of, place_of, Stepped}
use Rattle.book.specs.Walks.{Walk, tells, ends}
use Rattle.book.specs.declared.faults.Cause.{Cause}
use Rattle.book.specs.declared.faults.Fault.{Fault}
use Rattle.book.specs.declared.reading.Entry.{Entry}
use Rattle.book.specs.declared.reading.Reader.{Reader}
use Rattle.kinds.specs.declared.alone.Hours.{Hours}
use Rattle.loops.specs.Loops.{RestKept}
use Rattle.sheet.specs.declared.forms.Sheet.{Sheet}
use Rattle.merge.proofs.Joining.{entered_more, noted_more, count_more}
use Rattle.merge.specs.Books.{EnteredAll, noted}
use Rattle.merge.specs.Merging.{half}
use Rattle.merge.specs.Turns.{with_note, count_after, ItemTaken, ItemsTaken}
use Rattle.merge.specs.declared.reports.Book.{Book}
use Rattle.merge.specs.declared.reports.Report.{Report}

-- what is known at the start of a turn
pub record Taking (book : Book) (start : Reader) (sheet : Sheet) (hours : List Hours) (reports : List Report) (reader : Reader) (sheet_now : Sheet) (hours_now : List Hours) (reports_now : List Report) (count : ℕ) : Type 0 where
  pub done : List Item
  pub told : List Report
  pub entered : EnteredAll book sheet done sheet_now told
  pub walked : (rest : List Item) → Walk (book_of start) (place_of reader) rest → Walk (book_of start) (place_of start) (done ++ rest)
  pub same : book_of reader ≡ book_of start
  pub counted : count ≡ length told
  pub written : reports_now ≡ told ++ drop count reports
  pub working : RestKept hours hours_now
  -- a command takes at least two bytes, and a fault ends the book
  pub before_end : place_of reader < length (book_of start) → 2 * count ≤ place_of reader
  pub few : 2 * count ≤ length (book_of start) + 1

pub begun : (book : Book) (start : Reader) (sheet : Sheet) (hours : List Hours) (reports : List Report) → place_of start ≡ 0 → Taking book start sheet hours reports start sheet hours reports 0
begun book start sheet hours reports front = record {
  done = [];
  told = [];
  entered = (refl, refl);
  walked = λ rest w. w;
  same = refl;
  counted = refl;
  written = refl;
  working = refl;
  before_end = λ _. omega arith;
  few = omega arith;
}

-- no command is shorter than two bytes
two_bytes : (i : Instruction) → 2 ≤ width i
two_bytes (add_step step duration kind name) = lit≤ tt
two_bytes (remove_step step) = lit≤ tt
two_bytes (set_duration step duration) = lit≤ tt
two_bytes (put_after rule u v gap carry) = lit≤ tt
two_bytes (put_within rule u v hours) = lit≤ tt
two_bytes (put_at rule v hour) = lit≤ tt
two_bytes (remove_rule rule) = lit≤ tt
two_bytes (set_period period) = lit≤ tt
two_bytes (set_span span) = lit≤ tt
two_bytes (set_vessels kind count) = lit≤ tt

-- where a reader goes on, it has gone two bytes on
far : (place end : ℕ) (d : Result Instruction Cause) → behind place end d < end → place + 2 ≤ behind place end d
far place end (Ok i) h = let long = two_bytes i in omega arith
far place end (Err cause) h = absurd (omega arith)

-- one item brings at most one report
count_grows : (answer : Option ℕ) (count : ℕ) → count_after answer count ≤ count + 1
count_grows None count = omega arith
count_grows (Some number) count = omega arith

module _ (book : Book) (start : Reader) (sheet : Sheet) (hours : List Hours) (reports : List Report) (reader : Reader) (sheet_now : Sheet) (hours_now : List Hours) (reports_now : List Report) (count : ℕ)
    (known : Taking book start sheet hours reports reader sheet_now hours_now reports_now count) where
  -- what a step tells, of the book itself
  told_next : (r : Result Entry Fault) (further : Reader) → Stepped reader (Some r) further → next (book_of start) (place_of reader) ≡ Some (item_of r)
  told_next r further step = subst (λ b. next b (place_of reader) ≡ Some (item_of r)) known.same (sym step.item)

  here : (r : Option (Result Entry Fault)) (further : Reader) → Stepped reader r further → onward (book_of start) (place_of reader) ≡ place_of further
  here r further step = ap (λ b. onward b (place_of reader)) (sym known.same) ∙ sym step.place

  inside : (r : Result Entry Fault) (further : Reader) → Stepped reader (Some r) further → place_of reader < length (book_of start)
  inside r further step =
      ⊎_elim (λ low. low) (λ past. absurd (true≢false (ap is_some (sym (told_next r further step) ∙ next_past (book_of start) (place_of reader) past))))
      (cases_lt (place_of reader) (length (book_of start)))

  -- there is room for one report more
  pub has_room : (r : Result Entry Fault) (further : Reader) → Stepped reader (Some r) further → half (length (book_of start)) ≤ length reports → count < length reports
  has_room r further step room =
      let low = inside r further step in
      let early = known.before_end low in
      omega arith

  pub turned : (r : Result Entry Fault) (further : Reader) → Stepped reader (Some r) further → half (length (book_of start)) ≤ length reports
      → (sheet_after : Sheet) (hours_after : List Hours) (reports_after : List Report) (count_next : ℕ)
      → ItemTaken book sheet_now (item_of r) hours_now hours_after reports_now reports_after count sheet_after count_next
      → Taking book start sheet hours reports further sheet_after hours_after reports_after count_next
  turned r further step room sheet_after hours_after reports_after count_next taken =
      let low = inside r further step in
      let early = known.before_end low in
      let item = item_of r in
      let told = known.told in
      let spare = has_room r further step room in
      let more = count_grows taken.answer count in
      let grows = subst (λ n. n ≤ count + 1) (sym taken.counted) more in
      let goes = onward_inside (book_of start) (place_of reader) low in
      record {
        done = known.done ++ (item ∷ []);
        told = told ++ noted book item taken.answer;
        entered = entered_more book sheet known.done sheet_now told known.entered item taken.answer sheet_after taken.answered;
        walked = λ rest w.
            subst (Walk (book_of start) (place_of start)) (sym (append_assoc known.done (item ∷ []) rest))
            (known.walked (item ∷ rest) (tells (told_next r further step) (subst (λ p. Walk (book_of start) p rest) (sym (here (Some r) further step)) w)));
        same = step.book ∙ known.same;
        counted = taken.counted ∙ count_more book item told reports count known.counted spare taken.answer;
        written = taken.written
            ∙ ap (λ xs. with_note book item taken.answer xs count) known.written
            ∙ noted_more book item told reports count known.counted spare taken.answer
            ∙ ap (λ n. (told ++ noted book item taken.answer) ++ drop n reports) (sym taken.counted);
        working = taken.working ∙ known.working;
        before_end = λ inner.
            let on = here (Some r) further step in
            let two = far (place_of reader) (length (book_of start)) (decoded (drop (place_of reader) (book_of start))) (subst (λ p. p < length (book_of start)) (sym on ∙ goes) inner) in
            let reach : place_of reader + 2 ≤ place_of further = subst (λ p. place_of reader + 2 ≤ p) (sym goes ∙ on) two in
            omega arith;
        few = omega arith;
      }

  -- all items are taken when the reader has nothing more to tell
  pub ended : (further : Reader) → Stepped reader None further → ItemsTaken book (book_of start) (place_of start) sheet hours hours_now reports reports_now sheet_now count
  ended further step = record {
    told = known.told;
    entered = λ all w.
        let none = subst (λ b. next b (place_of reader) ≡ None) known.same (sym step.item) in
        let whole = known.walked [] (ends none) in
        subst (λ xs. EnteredAll book sheet xs sheet_now known.told) (sym (append-nil known.done) ∙ one_way (book_of start) whole w) known.entered;
    counted = known.counted;
    written = known.written;
    working = known.working;
  }
