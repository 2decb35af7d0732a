-- What a buffer holds once a card was put at its front. Assumes nothing.
use Rattle.std.proofs.Common.{◌≡◌, ℕ, ◌≤◌, leb, List, ◌++◌, length, take, drop, Ok, sym, ap, ◌∙◌, arith, le-leb}
use Rattle.std.proofs.lemmas.List.{take_at}
use Rattle.std.proofs.lemmas.Bool.{cond-true}
use Rattle.card.specs.Cards.{verdict}
use Rattle.sheet.specs.Limits.{FullSound}
use Rattle.sheet.specs.declared.forms.Sheet.{Sheet}
use Rattle.card_writing.proofs.Whole.{card_stands}
use Rattle.card_writing.specs.Contents.{card_of}
use Rattle.card_writing.specs.Outcomes.{Put, card_room, CardWritten, StandsFor}

module _ {card before after : List ℕ} {size : ℕ} (put : Put before 0 card size after) where
  front : after ≡ card ++ drop (length card) before
  front = put.bytes_after ∙ ap (λ n. card ++ drop n before) (omega arith)

  told : size ≡ length card
  told = omega (arith, put.reached)

  pub put_written : card_room ≤ length before → CardWritten card before (Ok size) after
  put_written room = record {
    answer = ap Ok told ∙ sym (cond-true (leb card_room (length before)) _ _ (le-leb card_room (length before) room));
    bytes_after = front;
  }

  pub put_front : take size after ≡ card
  put_front = ap (take size) front ∙ take_at card (drop (length card) before) size (sym told)

pub put_stands : (sheet : Sheet) → FullSound sheet → {before after : List ℕ} {size : ℕ} → Put before 0 (card_of sheet) size after → size ≤ card_room → StandsFor sheet (Ok size) after
put_stands sheet ok {after} {size} put most other e =
    let same : size ≡ other = cc in (
      omega (arith, most, same),
      ap (λ n. verdict (take n after)) (sym same) ∙ ap verdict (put_front put) ∙ card_stands sheet ok (omega (arith, most, told put)),
    )
