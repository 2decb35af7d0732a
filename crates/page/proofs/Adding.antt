-- Text added behind text. Assumes nothing.
use Rattle.std.proofs.Common.{◌≡◌, ℕ, zero, suc, ◌+◌, ◌≤◌, Bool, true, false, cond, leb, List, [], ◌++◌, length, take, drop, is_ok, None, Ok, Err, Result, sym, refl, ap, ◌∙◌, subst, arith, length-append}
use Rattle.std.proofs.lemmas.List.{append-nil, append_assoc, take_at}
use Rattle.std.proofs.lemmas.Bool.{true≢false}
use Rattle.lines.specs.Texts.{LineWritten}
use Rattle.lines.specs.declared.line.LineRefusal.{LineRefusal}
use Rattle.lines.specs.declared.line.LineRefusal.TheVariants.{TooShort}
use Rattle.sheet.specs.Sheets.{numbered}
use Rattle.sheet.specs.declared.forms.Sheet.{Sheet}
use Rattle.page.specs.Pages.{LineOf}
use Rattle.page.specs.Parts.{StepAdded, StepsAdded}

-- a line that was written has the length told
abbrev length_in : Result ℕ LineRefusal → ℕ
length_in (Ok n) = n
length_in (Err refusal) = 0

length-told : (b : Bool) (n m : ℕ) → ◌≡◌ {A = Result ℕ LineRefusal} (Ok n) (cond b (Ok m) (Err TooShort)) → n ≡ m
length-told true n m e = ap length_in e
length-told false n m e = absurd (true≢false (ap is_ok e))

module _ (text before after : List ℕ) (n : ℕ) (written : LineWritten text before (Ok n) after) where
  pub long : n ≡ length text
  long = length-told (leb 32 (length before)) n (length text) written.answer

  pub inside : n ≤ length after
  inside =
      let sum = ap length written.bytes_after ∙ length-append text (drop (length text) before) in
      let same = long in
      omega arith

  pub front : take n after ≡ text
  front = ap (take n) written.bytes_after ∙ take_at text (drop (length text) before) n (sym long)

-- one step more
steps_more : (sheet : Sheet) (n : ℕ) (before between after : List ℕ) → StepsAdded sheet n before between → StepAdded sheet (n + 1) between after → StepsAdded sheet (n + 1) before after
steps_more sheet n before between after added step =
    let next : suc n ≡ n + 1 = omega arith in
    subst (λ k. StepsAdded sheet k before after) next (record {
      steps = added.steps ++ step.line;
      are_steps = (added.steps, step.line, added.are_steps, subst (λ k. LineOf sheet k (numbered None sheet.steps k) step.line) (sym next) step.is_line, refl);
      added = step.added ∙ ap (λ xs. xs ++ step.line) added.added ∙ append_assoc before added.steps step.line;
    })

no_steps : (sheet : Sheet) (text : List ℕ) → StepsAdded sheet 0 text text
no_steps sheet text = record { steps = []; are_steps = refl; added = sym (append-nil text) }

-- the lines of the steps below a number
abbrev pub StepsBelow : Sheet → ℕ → List ℕ → List ℕ → Type 0
StepsBelow sheet number before after = (n : ℕ) → number ≡ suc n → StepsAdded sheet n before after

pub below_one : (sheet : Sheet) (text : List ℕ) → StepsBelow sheet 1 text text
below_one sheet text zero e = no_steps sheet text
below_one sheet text (suc n) e = absurd (omega arith)

pub below_more : (sheet : Sheet) (number : ℕ) (before between after : List ℕ) → 1 ≤ number → StepsBelow sheet number before between → StepAdded sheet number between after → StepsBelow sheet (number + 1) before after
below_more sheet zero before between after above so_far step n e = absurd (omega arith)
below_more sheet (suc m) before between after above so_far step n e =
    let here : suc m ≡ m + 1 = omega arith in
    let there : m + 1 ≡ n = omega arith in
    let step_here : StepAdded sheet (m + 1) between after = subst (λ k. StepAdded sheet k between after) here step in
    subst (λ k. StepsAdded sheet k before after) there (steps_more sheet m before between after (so_far m refl) step_here)
