-- A full sheet keeps every limit exactly if each of its tables does. Assumes nothing.
use Rattle.std.proofs.Common.{◌≡◌, ℕ, zero, suc, ◌≤◌, List, length, get_or, None, sym, ◌∙◌, subst, ⊎_elim, arith}
use Rattle.std.specs.List.{All}
use Rattle.std.specs.Option.{option_map}
use Rattle.sheet.specs.declared.forms.Rule.TheVariants.{Free}
use Rattle.sheet.specs.declared.forms.Sheet.{Sheet}
use Rattle.sheet.specs.Sheets.{numbered, without_name}
use Rattle.sheet.specs.Limits.{From, StepFits, FullSound}
use Rattle.sheet.proofs.Numbered.{told_step}
use Rattle.std.proofs.lemmas.List.{get_or_past, get_or_default, length-map}
use Rattle.std.proofs.lemmas.Bool.{cases_lt}
use Rattle.checked.specs.Kept.{StepKept, RuleKept, CountKept, EachOf}

-- what holds of none and of each entry of a table holds for every number
each_numbered : {X : Type 0} (count : ℕ) (none : X) (P : X → Type 0) (xs : List X) → P none → length xs ≡ count
    → EachOf count none P xs → (n : ℕ) → P (numbered none xs n)
each_numbered count none P xs p long each zero = p
each_numbered count none P xs p long each (suc n) =
    ⊎_elim (each n) (λ past. subst P (sym (get_or_past xs n none (omega arith))) p) (cases_lt n count)

each_count : (stock : List ℕ) → length stock ≡ 8 → EachOf 8 0 CountKept stock → (kind : ℕ) → get_or stock kind 0 ≤ 16
each_count stock long each kind = each_numbered 8 0 CountKept stock (omega arith) long each (suc kind)

module _ (sheet : Sheet) where
  pub full_sound : From 1 999 sheet.period → From 1 2000 sheet.span
      → length sheet.steps ≡ 31 → EachOf 31 None StepKept sheet.steps
      → length sheet.rules ≡ 96 → EachOf 96 Free (RuleKept sheet) sheet.rules
      → length sheet.stock ≡ 8 → EachOf 8 0 CountKept sheet.stock → FullSound sheet
  full_sound period span long steps long_rules rules kinds counts =
      let kept = each_numbered 31 None StepKept sheet.steps (tt, tt) long steps in
      record {
        rules =
            record {
              period = period;
              span = span;
              step_count = length-map sheet.steps (option_map without_name) ∙ long;
              rule_count = long_rules;
              steps = λ n. subst StepFits (sym (told_step sheet n)) (kept n).0;
              rules = each_numbered 96 Free (RuleKept sheet) sheet.rules tt long_rules rules;
            };
        names = λ n. (kept n).1;
        kinds = kinds;
        counts = each_count sheet.stock kinds counts;
      }

  pub steps_kept : FullSound sheet → EachOf 31 None StepKept sheet.steps
  steps_kept ok k h = (subst StepFits (told_step sheet (suc k)) (ok.rules.steps (suc k)), ok.names (suc k))

  pub rules_kept : FullSound sheet → EachOf 96 Free (RuleKept sheet) sheet.rules
  rules_kept ok k h = ok.rules.rules (suc k)

  -- the counts of its stock, as a test of all tells them
  pub counts_told : length sheet.stock ≡ 8 → All (λ count. count ≤ 16) sheet.stock → EachOf 8 0 CountKept sheet.stock
  counts_told long all k h = all k 0 (omega arith)

  pub counts_kept : FullSound sheet → All (λ count. count ≤ 16) sheet.stock
  counts_kept ok k d h =
      let same : get_or sheet.stock k d ≡ get_or sheet.stock k 0 = get_or_default sheet.stock k d 0 h in
      let low = ok.counts k in
      omega arith
