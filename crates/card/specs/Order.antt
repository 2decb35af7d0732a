-- The order of a card's commands: one period, one span, then steps and then rules, numbers rising in each group.
-- Assumes nothing.
use Rattle.std.specs.Prelude.{ℕ, Bool, true, cond, Some, None, Option, nat_lt}
use Rattle.book.specs.Commands.{Instruction, add_step, remove_step, set_duration, put_after, put_within, put_at, remove_rule, set_period, set_span, set_vessels}
use Rattle.card.specs.declared.order.Stage.{Stage}
use Rattle.card.specs.declared.order.Stage.TheVariants.{Period, Span, Steps, Rules}

-- what a command is about; a step or a rule with its number
pub data Subject : Type 0 where
  the_period : Subject
  the_span : Subject
  a_step : ℕ → Subject
  a_rule : ℕ → Subject
  -- no command of a card
  other : Subject

abbrev pub subject : Instruction → Subject
subject (add_step n duration kind name) = a_step n
subject (remove_step n) = other
subject (set_duration n duration) = other
subject (put_after r u v gap carry) = a_rule r
subject (put_within r u v hours) = a_rule r
subject (put_at r v hour) = a_rule r
subject (remove_rule r) = other
subject (set_period hours) = the_period
subject (set_span hours) = the_span
subject (set_vessels kind count) = other

-- the first number of a group is in place, and any other if it is above the one before
abbrev pub rising : Option ℕ → ℕ → Bool
rising None n = true
rising (Some last) n = nat_lt last n

-- A stage says what a card has come to: its period or its span is due, or the last step or rule that was read. The
-- stage after one more command, or none where the command is out of place.
abbrev pub place_after : Stage → Subject → Option Stage
place_after Period the_period = Some Span
place_after Period the_span = None
place_after Period (a_step n) = None
place_after Period (a_rule r) = None
place_after Period other = None
place_after Span the_period = None
place_after Span the_span = Some (Steps None)
place_after Span (a_step n) = None
place_after Span (a_rule r) = None
place_after Span other = None
place_after (Steps last) the_period = None
place_after (Steps last) the_span = None
place_after (Steps last) (a_step n) = cond (rising last n) (Some (Steps (Some n))) None
place_after (Steps last) (a_rule r) = Some (Rules r)
place_after (Steps last) other = None
place_after (Rules last) the_period = None
place_after (Rules last) the_span = None
place_after (Rules last) (a_step n) = None
place_after (Rules last) (a_rule r) = cond (nat_lt last r) (Some (Rules r)) None
place_after (Rules last) other = None
