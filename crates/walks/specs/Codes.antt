-- The code of a link tells which link of the sheet it is: rules 1 to 96 under their own numbers, the way back of an At
-- under 100 more, and floor, ceiling and turn of step v under 200, 300 and 400 more than v. Assumes nothing.
use Rattle.std.specs.Prelude.{◌≡◌, ℕ, zero, suc, ◌+◌, ◌/◌, ◌%◌, pos, ◌-ℤ◌, neg_ℤ, Some, None, Option, ◌≢◌}
use Rattle.sheet.specs.declared.forms.Link.{Link}
use Rattle.sheet.specs.declared.forms.Rule.{Rule}
use Rattle.sheet.specs.declared.forms.Rule.TheVariants.{Free, After, Within, At}
use Rattle.sheet.specs.Sheets.{RuleSheet, step_at, rule_at, duration}
use Rattle.sheet.specs.Links.{IsLink}

-- What it is to tell the link with a code: a link of the sheet that has it, or nothing, if none has it.
abbrev pub Tells : RuleSheet → ℕ → Option Link → Type 0
Tells s code None = (l : Link) → IsLink s l → l.code ≢ code
Tells s code (Some l) = IsLink s l × (l.code ≡ code)

-- The link that is told, read off the sheet. The hundreds of a code say which row of the table of links it belongs to,
-- and the rest of it is the number of the rule or the step.
abbrev pub rule_link : RuleSheet → ℕ → Rule → Option Link
rule_link s r Free = None
rule_link s r (After u v gap carry) =
    Some (record { from = u; to = v; hours = pos (duration s u + gap); carries = carry; code = r })
rule_link s r (Within u v hours) = Some (record { from = v; to = u; hours = neg_ℤ (pos hours); carries = 0; code = r })
rule_link s r (At v hour) = Some (record { from = 0; to = v; hours = pos hour; carries = 0; code = r })

abbrev pub back_link : ℕ → Rule → Option Link
back_link r Free = None
back_link r (After u v gap carry) = None
back_link r (Within u v hours) = None
back_link r (At v hour) = Some (record { from = v; to = 0; hours = neg_ℤ (pos hour); carries = 0; code = 100 + r })

abbrev pub floor_link : ℕ → Option (ℕ × ℕ) → Option Link
floor_link v None = None
floor_link v (Some told) = Some (record { from = 0; to = v; hours = pos 0; carries = 0; code = 200 + v })

abbrev pub ceiling_link : RuleSheet → ℕ → Option (ℕ × ℕ) → Option Link
ceiling_link s v None = None
ceiling_link s v (Some told) =
    Some (record { from = v; to = 0; hours = pos told.0 -ℤ pos s.span; carries = 0; code = 300 + v })

abbrev pub turn_link : ℕ → Option (ℕ × ℕ) → Option Link
turn_link v None = None
turn_link v (Some told) = Some (record { from = v; to = v; hours = pos told.0; carries = 1; code = 400 + v })

abbrev pub row_link : RuleSheet → ℕ → ℕ → Option Link
row_link s zero n = rule_link s n (rule_at s n)
row_link s (suc zero) n = back_link n (rule_at s n)
row_link s (suc (suc zero)) n = floor_link n (step_at s n)
row_link s (suc (suc (suc zero))) n = ceiling_link s n (step_at s n)
row_link s (suc (suc (suc (suc zero)))) n = turn_link n (step_at s n)
row_link s (suc (suc (suc (suc (suc q))))) n = None

abbrev pub link_of : RuleSheet → ℕ → Option Link
link_of s code = row_link s (code / 100) (code % 100)
