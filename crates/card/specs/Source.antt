-- A card's bytes, and the names on it. Assumes nothing.
use Rattle.std.specs.Prelude.{ℕ, List, None, Option}
use Rattle.std.specs.Option.{option_map}
use Rattle.sheet.specs.Sheets.{numbered}
use Rattle.card.specs.Cards.{verdict, sheet_of}
use Rattle.card.specs.declared.card.Card.{Card}

abbrev pub bytes_of : Card → List ℕ
bytes_of card = card.bytes.now

-- the name of step n on a card; absent where its sheet lacks the step
abbrev pub name_on : List ℕ → ℕ → Option (List ℕ)
name_on card n = option_map (λ step. step.name) (numbered None (sheet_of (verdict card)).steps n)
