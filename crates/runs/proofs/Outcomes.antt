-- What comes of entering a command is what the rules say. Assumes nothing.
use mathlib.Core.HLevel.{⊥_prop}
use mathlib.Core.Logic.{∥∥₁_elim}
use Rattle.std.proofs.Common.{is_some, Some, None, Ok, Err, sym, ap, ◌∙◌}
use Rattle.std.proofs.lemmas.Bool.{false≢true}
use Rattle.book.specs.Commands.{Instruction}
use Rattle.planner.specs.Entering.{Buffers, Room, Entered}
use Rattle.planner.specs.Refusals.{refusal_number}
use Rattle.planner.specs.Rules.{Outcome, number_by}
use Rattle.planner.specs.declared.refusals.Refusal.{Refusal}
use Rattle.planner.specs.declared.refusals.Refusal.TheVariants.{Faulty, NoTimetable, Unread, TooShort}
use Rattle.sheet.specs.declared.forms.Sheet.{Sheet}

module _ (sheet : Sheet) (i : Instruction) (before after : Buffers) (now_sheet : Sheet) where
  pub accepted : Entered sheet i before now_sheet after (Ok tt) → Outcome sheet i None now_sheet
  accepted entered = record { no_fault = entered.no_fault; possible = entered.lawful; becomes = entered.becomes }

  pub refused : (refusal : Refusal) → Room before → Entered sheet i before now_sheet after (Err refusal) → Outcome sheet i (Some (refusal_number refusal)) now_sheet
  refused (Faulty fault) room faulted = record {
    numbered = sym (ap number_by faulted.first);
    impossible = λ none _. false≢true (ap is_some (sym none ∙ faulted.first));
    stays = faulted.stays;
  }
  refused (NoTimetable count) room never = record {
    numbered = sym (ap number_by never.no_fault);
    impossible = λ _ possible. ∥∥₁_elim possible ⊥_prop (λ way. never.none way.0 way.1);
    stays = never.stays;
  }
  refused (Unread fault) room never = absurd never
  refused TooShort room short = absurd (short.0 room)
