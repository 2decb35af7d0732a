-- Commands that pass a card's check one after another. Assumes nothing.
use Rattle.std.proofs.Common.{◌≡◌, ℕ, zero, suc, ◌+◌, ◌<◌, true, List, [], ◌∷◌, ◌++◌, length, get_or, Some, Ok, sym, refl, ap, ◌∙◌, subst, append_assoc, arith, eq-eqb, le-leb}
use Rattle.std.proofs.lemmas.Bool.{and_from}
use Rattle.book.specs.Commands.{Instruction, width}
use Rattle.card.specs.Cards.{in_place, ruling, by_ruling, judged}
use Rattle.card.specs.Order.{subject, place_after}
use Rattle.card.specs.declared.order.Stage.{Stage}
use Rattle.changes.specs.Changes.{asked}
use Rattle.changes.specs.Tests.{from, printable, name_fits, in_limits, has}
use Rattle.sheet.specs.Limits.{From}
use Rattle.sheet.specs.declared.forms.Sheet.{Sheet}
use Rattle.card_writing.proofs.Bytes.{up_to_none, up_to_suc}
use Rattle.card_writing.proofs.Walked.{placed_from}
use Rattle.card_writing.specs.Contents.{up_to}

-- from a stage and a sheet, commands lead to another stage and the sheet that they ask for, whatever comes behind them
pub record Leads (stage : Stage) (sheet : Sheet) (is : List Instruction) (later : Stage) (built : Sheet) : Type 0 where
  pub on : (end place : ℕ) (rest : List Instruction) → (further : ℕ) × (judged end stage sheet (placed_from place (is ++ rest)) ≡ judged end later built (placed_from further rest))

pub leads_none : {stage : Stage} {sheet : Sheet} → Leads stage sheet [] stage sheet
leads_none = record { on = λ end place rest. (place, refl) }

pub leads_one : (stage : Stage) (sheet : Sheet) (i : Instruction) (later : Stage) → place_after stage (subject i) ≡ Some later → in_limits (has sheet) i ≡ true → Leads stage sheet (i ∷ []) later (asked sheet i)
leads_one stage sheet i later here fits = record {
  on = λ end place rest.
      let passed : ruling stage (has sheet) (record { offset = place; instruction = i }) ≡ Ok later = λ j. in_place (here j) place (fits j) in
      (place + width i, ap (λ r. by_ruling r (λ s. judged end s (asked sheet i) (placed_from (place + width i) rest))) passed);
}

pub leads_both : {first second third : Stage} {sheet more whole : Sheet} {xs ys : List Instruction} → Leads first sheet xs second more → Leads second more ys third whole → Leads first sheet (xs ++ ys) third whole
leads_both {first} {sheet} {xs} {ys} one two = record {
  on = λ end place rest.
      let half = one.on end place (ys ++ rest) in
      let all = two.on end half.0 rest in
      (all.0, ap (λ l. judged end first sheet (placed_from place l)) (append_assoc xs ys rest) ∙ half.1 ∙ all.1);
}

module _ (what : ℕ → List Instruction) where
  pub leads_to_none : {stage : Stage} {sheet : Sheet} → Leads stage sheet (up_to what 0) stage sheet
  leads_to_none {stage} {sheet} = subst (λ l. Leads stage sheet l stage sheet) (sym (up_to_none what)) leads_none

  pub leads_to_more : {first second third : Stage} {sheet more whole : Sheet} (n : ℕ) {is : List Instruction} → what (suc n) ≡ is → Leads first sheet (up_to what n) second more → Leads second more is third whole → Leads first sheet (up_to what (suc n)) third whole
  leads_to_more {first} {third} {sheet} {whole} n e one two =
      subst (λ l. Leads first sheet l third whole) (ap (λ l. up_to what n ++ l) (sym e) ∙ sym (up_to_suc what n)) (leads_both one two)

-- tests that pass
pub from_passes : (low high n : ℕ) → From low high n → from low high n ≡ true
from_passes low high n range = and_from _ _ (le-leb low n range.0) (le-leb n high range.1)

printable_passes : (bs : List ℕ) → ((k : ℕ) → k < length bs → From 0x20 0x7E (get_or bs k 0)) → printable bs ≡ true
printable_passes [] each = refl
printable_passes (b ∷ bs) each = and_from _ _ (from_passes 0x20 0x7E b (each zero (omega arith))) (printable_passes bs (λ k h. each (suc k) (omega arith)))

pub name_passes : (name : List ℕ) → length name ≡ 8 → ((k : ℕ) → k < 8 → From 0x20 0x7E (get_or name k 0)) → name_fits name ≡ true
name_passes name eight each = and_from _ _ (eq-eqb (length name) 8 eight) (printable_passes name (λ k h. each k (omega arith)))
