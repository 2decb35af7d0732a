-- What one pass over a card finds. Assumes nothing.
use Rattle.std.specs.Prelude.{◌≡◌, ℕ, cond, List, Some, None, Option, ◌==◌}
use Rattle.std.specs.Option.{option_map}
use Rattle.book.specs.Commands.{Instruction, add_step, remove_step, set_duration, put_after, put_within, put_at, remove_rule, set_period, set_span, set_vessels}
use Rattle.book.specs.Reading.{Item, book_of, place_of}
use Rattle.book.specs.Walks.{Walk}
use Rattle.book.specs.declared.reading.Reader.{Reader}
use Rattle.sheet.specs.Edits.{empty_sheet}
use Rattle.sheet.specs.Sheets.{numbered}
use Rattle.sheet.specs.declared.forms.Rule.{Rule}
use Rattle.sheet.specs.declared.forms.Rule.TheVariants.{Free, After, Within, At}
use Rattle.sheet.specs.declared.forms.Sheet.{Sheet}
use Rattle.sheet.specs.declared.forms.Step.{Step}
use Rattle.card.specs.Cards.{judged, verdict, stands_for}
use Rattle.card.specs.declared.lookups.Found.{Found}
use Rattle.card.specs.declared.lookups.FoundStep.{FoundStep}
use Rattle.card.specs.declared.order.Stage.TheVariants.{Period}

-- the period, the span, one step and one rule
pub record Answers : Type 0 where
  pub period : ℕ
  pub span : ℕ
  pub step : Option Step
  pub rule : Rule

-- what a sheet answers of a step and a rule by their numbers
abbrev pub answers_from : Sheet → ℕ → ℕ → Answers
answers_from sheet n r = record { period = sheet.period; span = sheet.span; step = numbered None sheet.steps n; rule = numbered Free sheet.rules r }

-- what an empty planner's sheet answers of any step and rule
abbrev pub none_found : Answers
none_found = record { period = 24; span = 336; step = None; rule = Free }

-- what the code holds, with a step's name as its bytes
abbrev pub step_found : FoundStep → Step
step_found step = record { duration = step.duration; kind = step.kind; name = step.name.now }

-- what a source tells of it
abbrev pub nameless : FoundStep → ℕ × ℕ
nameless step = (step.duration, step.kind)

abbrev pub answers_of : Found → Answers
answers_of found = record { period = found.period; span = found.span; step = option_map step_found found.step; rule = found.rule }

abbrev pub with_found_rule : Answers → Rule → Answers
with_found_rule known rule = record { period = known.period; span = known.span; step = known.step; rule = rule }

-- what is known after a command of a card, of step n and rule r
abbrev pub noted_by : ℕ → ℕ → Answers → Instruction → Answers
noted_by n r known (add_step m duration kind name) =
    record { period = known.period; span = known.span; step = cond (m == n) (Some (record { duration = duration; kind = kind; name = name })) known.step; rule = known.rule }
noted_by n r known (remove_step m) = known
noted_by n r known (set_duration m duration) = known
noted_by n r known (put_after q u v gap carry) = with_found_rule known (cond (q == r) (After u v gap carry) known.rule)
noted_by n r known (put_within q u v hours) = with_found_rule known (cond (q == r) (Within u v hours) known.rule)
noted_by n r known (put_at q v hour) = with_found_rule known (cond (q == r) (At v hour) known.rule)
noted_by n r known (remove_rule q) = known
noted_by n r known (set_period hours) = record { period = hours; span = known.span; step = known.step; rule = known.rule }
noted_by n r known (set_span hours) = record { period = known.period; span = hours; step = known.step; rule = known.rule }
noted_by n r known (set_vessels kind count) = known

-- Wherever a reader's items are a card that stands for a sheet, what was found is what that sheet answers.
abbrev pub FindsIn : Reader → ℕ → ℕ → Answers → Type 0
FindsIn reader n r found =
    (end : ℕ) (items : List Item) (sheet : Sheet) → Walk (book_of reader) (place_of reader) items → judged end Period empty_sheet items ≡ stands_for sheet → found ≡ answers_from sheet n r

-- the same of a card's bytes
abbrev pub FindsOn : List ℕ → ℕ → ℕ → Answers → Type 0
FindsOn card n r found = (sheet : Sheet) → verdict card ≡ stands_for sheet → found ≡ answers_from sheet n r
