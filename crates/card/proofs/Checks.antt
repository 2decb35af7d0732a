-- The turns of the card checker. Assumes nothing.
use Rattle.std.proofs.Common.{◌≡◌, ℕ, ◌<◌, ◌≤◌, Bool, true, false, List, length, replicate, Some, None, Ok, Err, Result, sym, refl, ap, ◌∙◌, subst, length-set, le-leb}
use borrow.Author.Tests.{lt-leb}
use Rattle.book.specs.Commands.{Instruction, add_step, remove_step, set_duration, put_after, put_within, put_at, remove_rule, set_period, set_span, set_vessels, said}
use Rattle.book.specs.Reading.{Item, Placed, item_of, next, onward, book_of, place_of, Opened, Stepped}
use Rattle.book.proofs.Walking.{items_walk}
use Rattle.book.specs.Walks.{Walk, items}
use Rattle.book.specs.declared.faults.Fault.{Fault}
use Rattle.book.specs.declared.reading.Entry.{Entry}
use Rattle.book.specs.declared.reading.Reader.{Reader}
use Rattle.changes.specs.Changes.{asked}
use Rattle.changes.specs.Tests.{has}
use Rattle.sheet.specs.Edits.{empty_sheet}
use Rattle.sheet.specs.declared.forms.Sheet.{Sheet}
use Rattle.card.proofs.Marking.{Shows, no_marks, same_limits, shows_more}
use Rattle.card.proofs.Progress.{Reached, at_start, go_on, stopped, unread, at_end}
use Rattle.card.specs.Cards.{ended, in_place, ruling, judged, fault_at, verdict, outcome}
use Rattle.card.specs.Faults.{from_book}
use Rattle.card.specs.Marks.{marked, marks_after, placed_in}
use Rattle.card.specs.Order.{subject, place_after}
use Rattle.card.specs.Told.{ruling_passed}
use Rattle.card.specs.declared.faults.CardCause.TheVariants.{TooLong}
use Rattle.card.specs.declared.faults.CardFault.{CardFault}
use Rattle.card.specs.declared.order.Stage.{Stage}
use Rattle.card.specs.declared.order.Stage.TheVariants.{Period}

-- what the checker knows at the start of a turn
pub record Checked (start : Reader) (end : ℕ) (reader : Reader) (stage : Stage) (marks : List Bool) : Type 0 where
  pub sheet : Sheet
  pub reached : Reached (book_of start) end (place_of start) (place_of reader) stage sheet
  pub shows : Shows marks sheet
  pub long : length marks ≡ 32
  pub same : book_of reader ≡ book_of start

pub begun : (start : Reader) (end : ℕ) → Checked start end start Period (replicate 32 false)
begun start end = record { sheet = empty_sheet; reached = at_start; shows = no_marks; long = refl; same = refl }

length_marks : (marks : List Bool) (i : Instruction) → length (marks_after marks i) ≡ length marks
length_marks marks (add_step n duration kind name) = length-set marks n true
length_marks marks (remove_step n) = refl
length_marks marks (set_duration n duration) = refl
length_marks marks (put_after r u v gap carry) = refl
length_marks marks (put_within r u v hours) = refl
length_marks marks (put_at r v hour) = refl
length_marks marks (remove_rule r) = refl
length_marks marks (set_period hours) = refl
length_marks marks (set_span hours) = refl
length_marks marks (set_vessels kind count) = refl

-- the marks rule as the sheet does
ruled : (marks : List Bool) (sheet : Sheet) → Shows marks sheet → (stage : Stage) (entry : Placed) → ruling stage (has sheet) entry ≡ ruling stage (marked marks) entry
ruled marks sheet shows stage entry = ap (in_place (place_after stage (subject entry.instruction)) entry.offset) (sym (same_limits shows entry.instruction))

module _ {start : Reader} {end : ℕ} {reader : Reader} {stage : Stage} {marks : List Bool} (known : Checked start end reader stage marks) where
  -- what a step tells, of the card itself
  told_next : {r : Result Entry Fault} {further : Reader} → Stepped reader (Some r) further → next (book_of start) (place_of reader) ≡ Some (item_of r)
  told_next {r} step = subst (λ b. next b (place_of reader) ≡ Some (item_of r)) known.same (sym step.item)

  pub turned : (entry : Entry) {further : Reader} (later : Stage) → Stepped reader (Some (Ok entry)) further → ruling stage (marked marks) (placed_in entry) ≡ Ok later → Checked start end further later (marks_after marks (said entry.command))
  turned entry {further} later step passed =
      let rule = ruled marks known.sheet known.shows stage (placed_in entry) ∙ passed in
      let fits = ruling_passed stage (has known.sheet) (placed_in entry) later rule in
      let here : onward (book_of start) (place_of reader) ≡ place_of further = ap (λ b. onward b (place_of reader)) (sym known.same) ∙ sym step.place in
      record {
        sheet = asked known.sheet (said entry.command);
        reached = subst (λ p. Reached (book_of start) end (place_of start) p later (asked known.sheet (said entry.command))) here (go_on known.reached (placed_in entry) (told_next step) later rule);
        shows = shows_more marks known.sheet known.long known.reached.sound known.shows (said entry.command) fits;
        long = length_marks marks (said entry.command) ∙ known.long;
        same = step.book ∙ known.same;
      }

  pub refused : (entry : Entry) {further : Reader} (fault : CardFault) → Stepped reader (Some (Ok entry)) further → ruling stage (marked marks) (placed_in entry) ≡ Err fault → (all : List Item) → Walk (book_of start) (place_of start) all → Err fault ≡ outcome (judged end Period empty_sheet all)
  refused entry fault step told all w =
      sym (ap outcome (stopped known.reached (placed_in entry) (told_next step) fault (ruled marks known.sheet known.shows stage (placed_in entry) ∙ told) all w))

  pub broken : (fault : Fault) {further : Reader} → Stepped reader (Some (Err fault)) further → (all : List Item) → Walk (book_of start) (place_of start) all → Err (from_book fault) ≡ outcome (judged end Period empty_sheet all)
  broken fault step all w = sym (ap outcome (unread known.reached fault (told_next step) all w))

  pub finished : {further : Reader} → Stepped reader None further → (all : List Item) → Walk (book_of start) (place_of start) all → outcome (ended end stage known.sheet) ≡ outcome (judged end Period empty_sheet all)
  finished step all w = sym (ap outcome (at_end known.reached (subst (λ b. next b (place_of reader) ≡ None) known.same (sym step.item)) all w))

-- a card of at most 4096 bytes is judged by its items, and a longer one is refused
pub verdict_short : (card : List ℕ) → length card ≤ 4096 → verdict card ≡ judged (length card) Period empty_sheet (items card)
unfolding verdict
verdict_short card short = rw (le-leb (length card) 4096 short)

pub verdict_long : (card : List ℕ) → 4096 < length card → verdict card ≡ fault_at TooLong 0
unfolding verdict
verdict_long card long = rw (lt-leb (length card) 4096 long)

-- a reader of the card walks its items
pub opened_walk : {card : List ℕ} (reader : Reader) → Opened card (Ok reader) → Walk (book_of reader) (place_of reader) (items card)
opened_walk {card} reader opened =
    subst (λ b. Walk b (place_of reader) (items card)) (sym opened.1) (subst (λ p. Walk card p (items card)) (sym opened.2) (items_walk card))
