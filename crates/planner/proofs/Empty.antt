-- The chart of an empty planner: hour zero alone. Assumes nothing.
use Rattle.std.proofs.Common.{◌≡◌, ℕ, zero, suc, ◌+◌, ◌*◌, ◌<◌, false, List, get_or, replicate, ℤ, pos, is_some, None, sym, refl, ap, ◌∙◌, subst, arith}
use Rattle.std.proofs.lemmas.List.{length-set, length-replicate, get_or-set_other, get_or-replicate}
use Rattle.std.proofs.lemmas.Int.{ints}
use Rattle.std.proofs.lemmas.Bool.{and_parts, true≢false, false≢true}
use Rattle.changes.proofs.Kept.{numbered_same}
use Rattle.sheet.proofs.Numbered.{told_some}
use Rattle.sheet.specs.Edits.{empty_sheet}
use Rattle.sheet.specs.Sheets.{RuleSheet, rule_sheet, has_step}
use Rattle.sheet.specs.Timetables.{Timetable, Lawful, Obeys}
use Rattle.sheet.specs.Waits.{IsWait, IsEntry, no_wait}
use Rattle.sheet.specs.declared.forms.Rule.TheVariants.{Free}
use Rattle.sheet.specs.declared.forms.Sheet.{Sheet}
use Rattle.planner.specs.Invariant.{Plannable, empty_chart}

abbrev s : RuleSheet
s = rule_sheet empty_sheet

no_starts : Timetable
no_starts n = None

no_step : (n : ℕ) → has_step s n ≡ false
no_step n = told_some empty_sheet n ∙ ap is_some (numbered_same 31 n None)

lawful : Lawful s no_starts
unfolding no_starts
lawful = record {
  covers = λ n. sym (no_step n);
  from_zero = λ n here. absurd (false≢true (sym (no_step n) ∙ here));
  in_span = λ n here. absurd (false≢true (sym (no_step n) ∙ here));
  in_period = λ n here. absurd (false≢true (sym (no_step n) ∙ here));
  rules = λ r. subst (Obeys s no_starts) (sym (numbered_same 96 r Free)) tt;
}

zero_wait : IsWait s 0 0 (pos 0)
zero_wait = record {
  attained = ∣ (no_starts, lawful, refl) ∣₁;
  least = λ t k. omega (arith, ints);
}

no_entry : (m : ℕ) → 0 < m → m < 1024 → get_or empty_chart m (pos 0) ≡ no_wait
no_entry m some low =
    get_or-set_other (replicate 1024 no_wait) 0 m (pos 0) (pos 0) (λ e. let n = e in absurd (omega arith)) ∙ get_or-replicate 1024 m no_wait (pos 0) low

entry : (i j : ℕ) → i < 32 → j < 32 → IsEntry s i j (get_or empty_chart (32 * i + j) (pos 0))
entry zero zero low_i low_j =
    let place : 32 * 0 + 0 ≡ 0 = omega arith in
    subst (λ m. IsEntry s 0 0 (get_or empty_chart m (pos 0))) (sym place) (record {
      there = λ _. zero_wait;
      absent = λ e. absurd (true≢false e);
    })
entry zero (suc j) low_i low_j = record {
  there = λ e. absurd (false≢true (sym (no_step (suc j)) ∙ e));
  absent = λ _. no_entry (32 * 0 + suc j) (omega arith) (omega arith);
}
entry (suc i) j low_i low_j = record {
  there = λ e. absurd (false≢true (sym (no_step (suc i)) ∙ (and_parts _ _ e).0));
  absent = λ _. no_entry (32 * suc i + j) (omega arith) (omega arith);
}

pub empty_plannable : Plannable empty_sheet empty_chart
empty_plannable = record {
  lawful = ∣ (no_starts, lawful) ∣₁;
  waits = record { size = length-set (replicate 1024 no_wait) 0 (pos 0) ∙ length-replicate 1024 no_wait; entries = entry };
}

pub empty_kept : (sheet : Sheet) (chart : List ℤ) → sheet ≡ empty_sheet → chart ≡ empty_chart → ∥ Plannable sheet chart ∥₁
empty_kept sheet chart e f = ∣ subst (λ x. Plannable x chart) (sym e) (subst (Plannable empty_sheet) (sym f) empty_plannable) ∣₁
