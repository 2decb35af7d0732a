-- The steps reached have the durations and kinds of the sheet. Assumes nothing.
use Rattle.std.proofs.Common.{◌≡◌, ℕ, true, List, length, is_some, Some, None, Option, sym, ap, ◌∙◌, subst, ⊎_elim, arith}
use Rattle.std.proofs.lemmas.List.{length-replicate}
use Rattle.std.proofs.lemmas.Bool.{cases_eq, false≢true}
use Rattle.choose.specs.Choosing.{HourRule}
use Rattle.sheet.proofs.Numbered.{length-replaced, numbered-replaced_same, numbered-replaced_other}
use Rattle.sheet.specs.Limits.{Sound}
use Rattle.sheet.specs.Sheets.{RuleSheet, numbered, step_at}
use Rattle.vessels.specs.declared.placed.Placed.{Placed}
use Rattle.windows.specs.Placing.{start_of, starts, placed_at, Reached, nothing, further}
use Rattle.windows.proofs.Steps.{starts_none, step_numbers}

-- A step of the list as the sheet has it: with its duration and kind, at some start.
pub record AsTold (s : RuleSheet) (n : ℕ) (step : Option Placed) : Type 0 where
  pub start : ℕ
  pub duration : ℕ
  pub kind : ℕ
  pub told : step_at s n ≡ Some (duration, kind)
  pub is : step ≡ Some (placed_at start duration kind)

module _ (s : RuleSheet) (ok : Sound s) (rule : HourRule) where
  pub reached_long : (placed : List (Option Placed)) → Reached s rule placed → length placed ≡ 31
  reached_long placed nothing = length-replicate {A = Option Placed} 31 None
  reached_long placed (further old m duration kind first last reached next told window) = length-replaced None old m _ ∙ reached_long old reached

  pub reached_as_told : (placed : List (Option Placed)) → Reached s rule placed → (n : ℕ) → is_some (starts placed n) ≡ true → AsTold s n (numbered None placed n)
  reached_as_told placed nothing n given = absurd (false≢true (ap (λ t. is_some (t n)) (sym starts_none) ∙ given))
  reached_as_told placed (further old m duration kind first last reached next told window) n given =
      let number = step_numbers s ok m next.waiting.there in
      let long = reached_long old reached in
      ⊎_elim
      (λ same. record {
        start = _;
        duration = duration;
        kind = kind;
        told = ap (step_at s) same ∙ told;
        is = ap (numbered None placed) same ∙ numbered-replaced_same None old m _ (omega (arith, number.0)) (omega (arith, number.1));
      })
      (λ other.
      let stays = numbered-replaced_other None old m n _ other in
      subst (AsTold s n) (sym stays) (reached_as_told old reached n (ap (λ p. is_some (start_of p)) (sym stays) ∙ given)))
      (cases_eq n m)
