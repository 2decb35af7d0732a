-- Entering a command without a search for loops. Assumes nothing.
use mathlib.Core.HLevel.{⊥_prop}
use Rattle.std.proofs.Common.{◌≡◌, ◌≤◌, List, length, ℤ, Ok, Err, Result, IsErrAnd, sym, refl, ap, ◌∙◌, subst, arith}
use mathlib.Core.Logic.{∥∥₁_elim}
use Rattle.book.specs.Commands.{Instruction}
use Rattle.checked.specs.declared.checked.CheckedSheet.{CheckedSheet}
use Rattle.kinds.specs.declared.alone.Hours.{Hours}
use Rattle.sheet.specs.Sheets.{rule_sheet}
use Rattle.sheet.specs.declared.forms.Sheet.{Sheet}
use Rattle.waits.specs.Charts.{PlainlyCharted}
use Rattle.loops.specs.declared.refusals.LoopRefusal.{LoopRefusal}
use Rattle.loops.specs.declared.refusals.LoopRefusal.TheVariants as loop
use Rattle.planner.specs.Admitting.{Admitted, PlannerPlainly}
use Rattle.planner.specs.Asking.{AskedFor}
use Rattle.planner.specs.Entering.{sheet_of}
use Rattle.planner.specs.Rules.{Possible, number_by}
use Rattle.planner.specs.declared.planner.Planner.{Planner}
use Rattle.planner.specs.declared.refusals.Refusal.{Refusal}
use Rattle.planner.specs.declared.refusals.Refusal.TheVariants.{Faulty, NoTimetable, Unread, TooShort}
use Rattle.planner.specs.Refusals.{without_chart}

told_by_chart : (sheet : Sheet) (hours hours_after : List Hours) (chart chart_after : List ℤ) (refusal : LoopRefusal) → 1024 ≤ length hours → PlainlyCharted (rule_sheet sheet) hours hours_after chart chart_after (Err refusal) → 1024 ≤ length chart → PlannerPlainly sheet hours hours_after (Err (without_chart refusal))
told_by_chart sheet hours hours_after chart chart_after loop.TooShort room short long = short.0 (room, long)
told_by_chart sheet hours hours_after chart chart_after (loop.NoTimetable count) room refused long =
    (λ possible. ∥∥₁_elim possible ⊥_prop (λ way. refused.none way.0 way.1), refused.working)

-- a plain chart that is refused although there is room leaves the sheet without a planner
pub impossible : (sheet : Sheet) (hours hours_after : List Hours) (chart chart_after : List ℤ) (refusal : LoopRefusal) (r : Result Planner Refusal) → IsErrAnd r (λ told. told ≡ without_chart refusal) → 1024 ≤ length hours → PlainlyCharted (rule_sheet sheet) hours hours_after chart chart_after (Err refusal) → 1024 ≤ length chart → PlannerPlainly sheet hours hours_after r
impossible sheet hours hours_after chart chart_after refusal (Ok planner) never room charted long = absurd never
impossible sheet hours hours_after chart chart_after refusal (Err told) is room charted long =
    subst (λ r. PlannerPlainly sheet hours hours_after (Err r)) (sym is) (told_by_chart sheet hours hours_after chart chart_after refusal room charted long)

module _ (sheet : Sheet) (i : Instruction) (checked : CheckedSheet) (asks : AskedFor sheet i (Ok checked)) (before after : List Hours) (room : 1024 ≤ length before) where
  pub admitted : (planner : Planner) → PlannerPlainly checked.sheet before after (Ok planner) → Admitted sheet i before after (sheet_of planner) (Ok tt)
  admitted planner planned = record {
    if_short = λ short. absurd (omega arith);
    if_long = λ _. record {
      outcome = record { no_fault = asks.0; possible = subst Possible asks.1 planned.1; becomes = planned.0 ∙ asks.1 };
      working = planned.2;
    };
  }

  pub refused : (refusal : Refusal) → PlannerPlainly checked.sheet before after (Err refusal) → Admitted sheet i before after sheet (Err refusal)
  refused (Faulty fault) never = absurd never
  refused (NoTimetable count) unplanned = record {
    if_short = λ short. absurd (omega arith);
    if_long = λ _. record {
      outcome = record {
        numbered = sym (ap number_by asks.0);
        impossible = λ _ possible. unplanned.0 (subst Possible (sym asks.1) possible);
        stays = refl;
      };
      working = unplanned.1;
    };
  }
  refused (Unread fault) never = absurd never
  refused TooShort never = absurd never
