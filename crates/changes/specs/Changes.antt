-- What a command asks for: the sheet that stands, with one change. Assumes nothing.
use Rattle.std.specs.Prelude.{ℕ, Some, None, slice_set}
use Rattle.book.specs.Commands.{Instruction, add_step, remove_step, set_duration, put_after, put_within, put_at, remove_rule, set_period, set_span, set_vessels}
use Rattle.sheet.specs.Edits.{with_step, with_duration, with_rule}
use Rattle.sheet.specs.declared.forms.Rule.TheVariants.{Free, After, Within, At}
use Rattle.sheet.specs.declared.forms.Sheet.{Sheet}

abbrev pub with_period : Sheet → ℕ → Sheet
with_period sheet hours = record { steps = sheet.steps; rules = sheet.rules; period = hours; span = sheet.span; stock = sheet.stock }

abbrev pub with_span : Sheet → ℕ → Sheet
with_span sheet hours = record { steps = sheet.steps; rules = sheet.rules; period = sheet.period; span = hours; stock = sheet.stock }

-- Kinds are counted from 0.
abbrev pub with_count : Sheet → ℕ → ℕ → Sheet
with_count sheet kind count =
    record { steps = sheet.steps; rules = sheet.rules; period = sheet.period; span = sheet.span; stock = slice_set sheet.stock kind count }

-- Adding a step and the three rule commands put in a step or a rule with their operands, the two removals take one
-- out, and the others set a duration, the period, the span or a count.
abbrev pub asked : Sheet → Instruction → Sheet
asked sheet (add_step n duration kind name) = with_step sheet n (Some (record { duration = duration; kind = kind; name = name }))
asked sheet (remove_step n) = with_step sheet n None
asked sheet (set_duration n duration) = with_duration sheet n duration
asked sheet (put_after r u v gap carry) = with_rule sheet r (After u v gap carry)
asked sheet (put_within r u v hours) = with_rule sheet r (Within u v hours)
asked sheet (put_at r v hour) = with_rule sheet r (At v hour)
asked sheet (remove_rule r) = with_rule sheet r Free
asked sheet (set_period hours) = with_period sheet hours
asked sheet (set_span hours) = with_span sheet hours
asked sheet (set_vessels kind count) = with_count sheet kind count
