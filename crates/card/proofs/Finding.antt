-- One pass over a card finds what its sheet has. Assumes nothing.
use Rattle.std.proofs.Common.{◌≡◌, ℕ, ◌<◌, ◌≤◌, true, false, cond, eqb, List, length, is_err, Some, None, Ok, Err, Result, sym, refl, ap, ◌∙◌, subst, ⊎_elim, arith, eq-eqb, ne_eqb}
use Rattle.std.proofs.lemmas.List.{length-map}
use Rattle.std.proofs.lemmas.Bool.{and_parts, cases_eq, cond-true, cond-false, true≢false, false≢true}
use Rattle.std.specs.Option.{option_map}
use Rattle.book.specs.Commands.{Instruction, add_step, remove_step, set_duration, put_after, put_within, put_at, remove_rule, set_period, set_span, set_vessels, said}
use Rattle.book.specs.Reading.{Item, Placed, item_of, next, onward, book_of, place_of, Stepped}
use Rattle.book.specs.Walks.{Walk}
use Rattle.book.specs.declared.faults.Fault.{Fault}
use Rattle.book.specs.declared.reading.Entry.{Entry}
use Rattle.book.specs.declared.reading.Reader.{Reader}
use Rattle.changes.proofs.Kept.{from_test, numbered_same}
use Rattle.changes.specs.Changes.{asked}
use Rattle.changes.specs.Tests.{has, puts_in_limits}
use Rattle.sheet.proofs.Numbered.{numbered-replaced_same, numbered-replaced_other}
use Rattle.sheet.specs.Edits.{empty_sheet, replaced}
use Rattle.sheet.specs.Limits.{FullSound}
use Rattle.sheet.specs.Sheets.{numbered, without_name}
use Rattle.sheet.specs.declared.forms.Rule.{Rule}
use Rattle.sheet.specs.declared.forms.Rule.TheVariants.{Free, After, Within, At}
use Rattle.sheet.specs.declared.forms.Sheet.{Sheet}
use Rattle.card.proofs.Progress.{Reached, at_start, go_on, stopped, unread, at_end}
use Rattle.card.specs.Cards.{Verdict, stands_for, faulty, ended, ruling, judged, outcome, sheet_of}
use Rattle.card.specs.Finds.{Answers, answers_from, none_found, with_found_rule, noted_by}
use Rattle.card.specs.Marks.{placed_in}
use Rattle.card.specs.Told.{ruling_passed}
use Rattle.card.specs.declared.faults.CardFault.{CardFault}
use Rattle.card.specs.declared.order.Stage.{Stage}
use Rattle.card.specs.declared.order.Stage.TheVariants.{Period, Span, Steps, Rules}

-- the entry of a number after another entry was put into the table
put_found : {X : Type 0} (none x : X) (xs : List X) (m n : ℕ) → 0 < m → m ≤ length xs → cond (eqb m n) x (numbered none xs n) ≡ numbered none (replaced xs m x) n
put_found none x xs m n low high =
    ⊎_elim
    (λ same. cond-true _ _ _ (eq-eqb m n same) ∙ sym (ap (numbered none (replaced xs m x)) (sym same) ∙ numbered-replaced_same none xs m x low high))
    (λ apart. cond-false _ _ _ (ne_eqb m n apart) ∙ sym (numbered-replaced_other none xs m n x (λ e. apart (sym e))))
    (cases_eq m n)

module _ (sheet : Sheet) (ok : FullSound sheet) (n r : ℕ) where
  rule_noted : (q : ℕ) (rule : Rule) → 1 ≤ q → q ≤ 96 → with_found_rule (answers_from sheet n r) (cond (eqb q r) rule (numbered Free sheet.rules r)) ≡ with_found_rule (answers_from sheet n r) (numbered Free (replaced sheet.rules q rule) r)
  rule_noted q rule low high = ap (with_found_rule (answers_from sheet n r)) (put_found Free rule sheet.rules q r low (omega (arith, ok.rules.rule_count)))

  pub noted_finds : (i : Instruction) → puts_in_limits sheet i ≡ true → noted_by n r (answers_from sheet n r) i ≡ answers_from (asked sheet i) n r
  noted_finds (add_step m duration kind name) fits =
      let range = from_test 1 31 m (and_parts _ _ fits).0 in
      let table : length sheet.steps ≡ 31 = sym (length-map sheet.steps (option_map without_name)) ∙ ok.rules.step_count in
      ap (λ o. record { period = sheet.period; span = sheet.span; step = o; rule = numbered Free sheet.rules r })
      (put_found None (Some (record { duration = duration; kind = kind; name = name })) sheet.steps m n range.0 (omega arith))
  noted_finds (remove_step m) fits = absurd (false≢true fits)
  noted_finds (set_duration m duration) fits = absurd (false≢true fits)
  noted_finds (put_after q u v gap carry) fits = let range = from_test 1 96 q (and_parts _ _ fits).0 in rule_noted q (After u v gap carry) range.0 range.1
  noted_finds (put_within q u v hours) fits = let range = from_test 1 96 q (and_parts _ _ fits).0 in rule_noted q (Within u v hours) range.0 range.1
  noted_finds (put_at q v hour) fits = let range = from_test 1 96 q (and_parts _ _ fits).0 in rule_noted q (At v hour) range.0 range.1
  noted_finds (remove_rule q) fits = absurd (false≢true fits)
  noted_finds (set_period hours) fits = refl
  noted_finds (set_span hours) fits = refl
  noted_finds (set_vessels kind count) fits = absurd (false≢true fits)

pub none_is : (n r : ℕ) → none_found ≡ answers_from empty_sheet n r
none_is n r = λ i. record { period = 24; span = 336; step = sym (numbered_same 31 n None) i; rule = sym (numbered_same 96 r Free) i }

-- how far a card that stands for a sheet was read, and what was found
pub record Looked (book : List ℕ) (end start place n r : ℕ) (found : Answers) : Type 0 where
  pub stage : Stage
  pub sheet : Sheet
  pub reached : Reached book end start place stage sheet
  pub finds : found ≡ answers_from sheet n r

pub looked_none : {book : List ℕ} {end start n r : ℕ} {found : Answers} → found ≡ none_found → Looked book end start start n r found
looked_none {n = n} {r = r} none = record { stage = Period; sheet = empty_sheet; reached = at_start; finds = none ∙ none_is n r }

pub no_fault : {fault : CardFault} {v : Verdict} {sheet : Sheet} → v ≡ faulty fault → v ≡ stands_for sheet → ⊥
no_fault e f = let no : ◌≡◌ {A = ℕ} 0 1 = cc in omega arith

end_sheet : (end : ℕ) (stage : Stage) (sheet whole : Sheet) → ended end stage sheet ≡ stands_for whole → sheet ≡ whole
end_sheet end Period sheet whole e = let no : ◌≡◌ {A = ℕ} 0 1 = cc in absurd (omega arith)
end_sheet end Span sheet whole e = let no : ◌≡◌ {A = ℕ} 0 1 = cc in absurd (omega arith)
end_sheet end (Steps last) sheet whole e = cc
end_sheet end (Rules last) sheet whole e = cc

module _ {book : List ℕ} {end start place n r : ℕ} {found : Answers} (looked : Looked book end start place n r found) (all : List Item) (walk : Walk book start all) (whole : Sheet) (sound : judged end Period empty_sheet all ≡ stands_for whole) where
  pub looked_more : (entry : Placed) → next book place ≡ Some (Ok entry) → Looked book end start (onward book place) n r (noted_by n r found entry.instruction)
  looked_more entry some = by_case (ruling looked.stage (has looked.sheet) entry) refl
    where
      by_case : (x : Result Stage CardFault) → ruling looked.stage (has looked.sheet) entry ≡ x → Looked book end start (onward book place) n r (noted_by n r found entry.instruction)
      by_case (Ok later) e = record {
        stage = later;
        sheet = asked looked.sheet entry.instruction;
        reached = go_on looked.reached entry some later e;
        finds = ap (λ a. noted_by n r a entry.instruction) looked.finds ∙ noted_finds looked.sheet looked.reached.sound n r entry.instruction (ruling_passed looked.stage (has looked.sheet) entry later e);
      }
      by_case (Err fault) e = absurd (no_fault (stopped looked.reached entry some fault e all walk) sound)

  pub looked_fault : (fault : Fault) → next book place ≡ Some (Err fault) → ⊥
  looked_fault fault some = no_fault (unread looked.reached fault some all walk) sound

  pub looked_all : next book place ≡ None → found ≡ answers_from whole n r
  looked_all none = looked.finds ∙ ap (λ s. answers_from s n r) (end_sheet end looked.stage looked.sheet whole (sym (at_end looked.reached none all walk) ∙ sound))

-- the same by a reader's steps
module _ {book : List ℕ} {end start n r : ℕ} {found : Answers} {reader further : Reader} (same : book_of reader ≡ book) (looked : Looked book end start (place_of reader) n r found) (all : List Item) (walk : Walk book start all) (whole : Sheet) (sound : judged end Period empty_sheet all ≡ stands_for whole) where
  pub step_looked : (entry : Entry) (later : Answers) → later ≡ noted_by n r found (said entry.command) → Stepped reader (Some (Ok entry)) further → Looked book end start (place_of further) n r later
  step_looked entry later noted step =
      let here : onward book (place_of reader) ≡ place_of further = ap (λ b. onward b (place_of reader)) (sym same) ∙ sym step.place in
      let told = subst (λ b. next b (place_of reader) ≡ Some (item_of (Ok entry))) same (sym step.item) in
      subst (Looked book end start (place_of further) n r) (sym noted)
      (subst (λ p. Looked book end start p n r (noted_by n r found (said entry.command))) here (looked_more looked all walk whole sound (placed_in entry) told))

  pub fault_looked : (fault : Fault) → Stepped reader (Some (Err fault)) further → ⊥
  fault_looked fault step = looked_fault looked all walk whole sound fault (subst (λ b. next b (place_of reader) ≡ Some (Err fault)) same (sym step.item))

  pub end_looked : Stepped reader None further → found ≡ answers_from whole n r
  end_looked step = looked_all looked all walk whole sound (subst (λ b. next b (place_of reader) ≡ None) same (sym step.item))

-- what a card's check says of its verdict
pub sound_stands : (v : Verdict) → is_err (outcome v) ≡ false → v ≡ stands_for (sheet_of v)
sound_stands (stands_for sheet) e = refl
sound_stands (faulty fault) e = absurd (true≢false e)

pub faulty_empty : (v : Verdict) → is_err (outcome v) ≡ true → empty_sheet ≡ sheet_of v
faulty_empty (stands_for sheet) e = absurd (false≢true e)
faulty_empty (faulty other) e = refl
