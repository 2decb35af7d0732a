-- A longer period keeps a timetable lawful. Assumes nothing.
use Rattle.std.proofs.Common.{ℕ, ◌*◌, ◌≤◌, mul-le-mul_left, arith}
use Rattle.std.proofs.lemmas.Int.{ints}
use Rattle.sheet.specs.declared.forms.Rule.{Rule}
use Rattle.sheet.specs.declared.forms.Rule.TheVariants.{Free, After, Within, At}
use Rattle.sheet.specs.Sheets.{RuleSheet, rule_at}
use Rattle.sheet.specs.Timetables.{Timetable, Obeys, Lawful}
use Rattle.sheet.specs.Layers.{at_period}

still_obeyed : (s : RuleSheet) (t : Timetable) (hours : ℕ) → s.period ≤ hours
    → (rule : Rule) → Obeys s t rule → Obeys (at_period s hours) t rule
still_obeyed s t hours longer Free h = tt
still_obeyed s t hours longer (After u v gap carry) h =
    let more : carry * s.period ≤ carry * hours = mul-le-mul_left carry longer in omega (arith, ints)
still_obeyed s t hours longer (Within u v within) h = h
still_obeyed s t hours longer (At v hour) h = h

pub longer_keeps : (s : RuleSheet) (t : Timetable) (hours : ℕ) → s.period ≤ hours → Lawful s t → Lawful (at_period s hours) t
longer_keeps s t hours longer k =
    record {
      covers = k.covers;
      from_zero = k.from_zero;
      in_span = k.in_span;
      in_period = λ n there. let h = k.in_period n there in omega arith;
      rules = λ r. still_obeyed s t hours longer (rule_at s r) (k.rules r);
    }
