-- A link's code tells which link it is. Assumes nothing.
use Rattle.std.proofs.Common.{◌≡◌, ℕ, zero, suc, ◌+◌, ◌*◌, ◌/◌, ◌%◌, ◌<◌, ◌≤◌, Bool, true, false, pos, ◌-ℤ◌, is_some, IfSome, Some, None, Option, sym, refl, ap, ◌∙◌, subst, ⊎_elim, arith}
use Rattle.std.proofs.lemmas.List.{get_or_past}
use Rattle.std.proofs.lemmas.Bool.{cases_lt, true≢false, false≢true}
use Rattle.sheet.specs.declared.forms.Link.{Link}
use Rattle.sheet.specs.declared.forms.Rule.{Rule}
use Rattle.sheet.specs.declared.forms.Rule.TheVariants.{Free, After, Within, At}
use Rattle.sheet.specs.Sheets.{RuleSheet, step_at, rule_at, HasStep, hours_of}
use Rattle.sheet.specs.Limits.{Sound}
use Rattle.sheet.specs.Links.{IsLink, after, within, at, at_back, floor, ceiling, turn}
use Rattle.walks.specs.Codes.{Tells, rule_link, back_link, floor_link, ceiling_link, turn_link, row_link, link_of}
use Rattle.walks.proofs.LinkLaws.{step_present}
use Rattle.walks.proofs.Short.{present_below}

abbrev is_free : Rule → Bool
is_free Free = true
is_free (After u v gap carry) = false
is_free (Within u v hours) = false
is_free (At v hour) = false

-- rules have numbers up to 96
rule_low : (s : RuleSheet) → Sound s → (r : ℕ) (rule : Rule) → rule_at s r ≡ rule → is_free rule ≡ false → r ≤ 96
rule_low s ok zero rule e taken = omega arith
rule_low s ok (suc r) rule e taken =
    let count = ok.rule_count in
    ⊎_elim (λ (h : r < 96). omega arith)
    (λ (h : 96 ≤ r).
    absurd (true≢false (ap is_free (sym (get_or_past s.rules r Free (omega arith)) ∙ e) ∙ taken)))
    (cases_lt r 96)

step_low : (s : RuleSheet) → Sound s → (v : ℕ) → HasStep s v → v < 32
step_low s ok v there = present_below s ok v (step_present s v there)

-- row q of the table at the number n, for a code
at_row : (s : RuleSheet) (code q n : ℕ) → code / 100 ≡ q → code % 100 ≡ n → link_of s code ≡ row_link s q n
at_row s code q n e f = ap (λ x. row_link s x (code % 100)) e ∙ ap (row_link s q) f

floor_there : (v : ℕ) (o : Option (ℕ × ℕ)) → is_some o ≡ true
    → floor_link v o ≡ Some (record { from = 0; to = v; hours = pos 0; carries = 0; code = 200 + v })
floor_there v None there = absurd (false≢true there)
floor_there v (Some told) there = refl

ceiling_there : (s : RuleSheet) (v : ℕ) (o : Option (ℕ × ℕ)) → is_some o ≡ true
    → ceiling_link s v o
    ≡ Some (record { from = v; to = 0; hours = pos (hours_of o) -ℤ pos s.span; carries = 0; code = 300 + v })
ceiling_there s v None there = absurd (false≢true there)
ceiling_there s v (Some told) there = refl

turn_there : (v : ℕ) (o : Option (ℕ × ℕ)) → is_some o ≡ true
    → turn_link v o ≡ Some (record { from = v; to = v; hours = pos (hours_of o); carries = 1; code = 400 + v })
turn_there v None there = absurd (false≢true there)
turn_there v (Some told) there = refl

-- each link is read off the sheet for its code
pub link_read : (s : RuleSheet) → Sound s → (l : Link) → IsLink s l → link_of s l.code ≡ Some l
link_read s ok l (after r u v gap carry e) =
    let low = rule_low s ok r _ e refl in at_row s r 0 r (omega arith) (omega arith) ∙ ap (rule_link s r) e
link_read s ok l (within r u v hours e) =
    let low = rule_low s ok r _ e refl in at_row s r 0 r (omega arith) (omega arith) ∙ ap (rule_link s r) e
link_read s ok l (at r v hour e) =
    let low = rule_low s ok r _ e refl in at_row s r 0 r (omega arith) (omega arith) ∙ ap (rule_link s r) e
link_read s ok l (at_back r v hour e) =
    let low = rule_low s ok r _ e refl in at_row s (100 + r) 1 r (omega arith) (omega arith) ∙ ap (back_link r) e
link_read s ok l (floor v there) =
    let low = step_low s ok v there in
    at_row s (200 + v) 2 v (omega arith) (omega arith) ∙ floor_there v (step_at s v) there
link_read s ok l (ceiling v there) =
    let low = step_low s ok v there in
    at_row s (300 + v) 3 v (omega arith) (omega arith) ∙ ceiling_there s v (step_at s v) there
link_read s ok l (turn v there) =
    let low = step_low s ok v there in
    at_row s (400 + v) 4 v (omega arith) (omega arith) ∙ turn_there v (step_at s v) there

pub code_below : (s : RuleSheet) → Sound s → (l : Link) → IsLink s l → l.code < 432
code_below s ok l (after r u v gap carry e) = let low = rule_low s ok r _ e refl in omega arith
code_below s ok l (within r u v hours e) = let low = rule_low s ok r _ e refl in omega arith
code_below s ok l (at r v hour e) = let low = rule_low s ok r _ e refl in omega arith
code_below s ok l (at_back r v hour e) = let low = rule_low s ok r _ e refl in omega arith
code_below s ok l (floor v there) = let low = step_low s ok v there in omega arith
code_below s ok l (ceiling v there) = let low = step_low s ok v there in omega arith
code_below s ok l (turn v there) = let low = step_low s ok v there in omega arith

same_some : (l m : Link) → Some l ≡ Some m → l ≡ m
same_some l m e = cc

pub codes_apart : (s : RuleSheet) → Sound s → (l m : Link) → IsLink s l → IsLink s m → l.code ≡ m.code → l ≡ m
codes_apart s ok l m p q e = same_some l m (sym (link_read s ok l p) ∙ ap (link_of s) e ∙ link_read s ok m q)

-- What is read off the sheet for a code is a link with that code.
abbrev Read : RuleSheet → ℕ → Option Link → Type 0
Read s code o = IfSome o (λ l. IsLink s l × (l.code ≡ code))

rule_read : (s : RuleSheet) (r : ℕ) (rule : Rule) → rule_at s r ≡ rule → Read s r (rule_link s r rule)
rule_read s r Free e = tt
rule_read s r (After u v gap carry) e = (after r u v gap carry e, refl)
rule_read s r (Within u v hours) e = (within r u v hours e, refl)
rule_read s r (At v hour) e = (at r v hour e, refl)

back_read : (s : RuleSheet) (r : ℕ) (rule : Rule) → rule_at s r ≡ rule → Read s (100 + r) (back_link r rule)
back_read s r Free e = tt
back_read s r (After u v gap carry) e = tt
back_read s r (Within u v hours) e = tt
back_read s r (At v hour) e = (at_back r v hour e, refl)

floor_read : (s : RuleSheet) (v : ℕ) (o : Option (ℕ × ℕ)) → step_at s v ≡ o → Read s (200 + v) (floor_link v o)
floor_read s v None e = tt
floor_read s v (Some told) e = (floor v (ap is_some e), refl)

ceiling_read : (s : RuleSheet) (v : ℕ) (o : Option (ℕ × ℕ)) → step_at s v ≡ o → Read s (300 + v) (ceiling_link s v o)
ceiling_read s v None e = tt
ceiling_read s v (Some told) e =
    subst
    (λ (hours : ℕ). Read s (300 + v) (Some (record { from = v; to = 0; hours = pos hours -ℤ pos s.span; carries = 0; code = 300 + v })))
    (ap hours_of e) (ceiling v (ap is_some e), refl)

turn_read : (s : RuleSheet) (v : ℕ) (o : Option (ℕ × ℕ)) → step_at s v ≡ o → Read s (400 + v) (turn_link v o)
turn_read s v None e = tt
turn_read s v (Some told) e =
    subst (λ (hours : ℕ). Read s (400 + v) (Some (record { from = v; to = v; hours = pos hours; carries = 1; code = 400 + v })))
    (ap hours_of e) (turn v (ap is_some e), refl)

row_read : (s : RuleSheet) (q n : ℕ) → Read s (q * 100 + n) (row_link s q n)
row_read s zero n = subst (λ (c : ℕ). Read s c (rule_link s n (rule_at s n))) (omega arith) (rule_read s n (rule_at s n) refl)
row_read s (suc zero) n = back_read s n (rule_at s n) refl
row_read s (suc (suc zero)) n = floor_read s n (step_at s n) refl
row_read s (suc (suc (suc zero))) n = ceiling_read s n (step_at s n) refl
row_read s (suc (suc (suc (suc zero)))) n = turn_read s n (step_at s n) refl
row_read s (suc (suc (suc (suc (suc q))))) n = tt

code_read : (s : RuleSheet) (code : ℕ) → Read s code (link_of s code)
code_read s code =
    subst (λ (c : ℕ). Read s c (link_of s code)) (omega arith) (row_read s (code / 100) (code % 100))

some_none : (l : Link) → Some l ≡ None → ⊥
some_none l e = true≢false (ap is_some e)

tells : (s : RuleSheet) → Sound s → (code : ℕ) (o : Option Link) → link_of s code ≡ o → Read s code o → Tells s code o
tells s ok code None e read = λ l link h. some_none l (sym (link_read s ok l link) ∙ ap (link_of s) h ∙ e)
tells s ok code (Some l) e read = read

pub told : (s : RuleSheet) → Sound s → (code : ℕ) → Tells s code (link_of s code)
told s ok code = tells s ok code (link_of s code) refl (code_read s code)

-- for code that reads a row: an answer that is the row's link is the link of the code
pub row_value : (s : RuleSheet) (code q : ℕ) (o : Option Link) → code / 100 ≡ q → o ≡ row_link s q (code % 100) → o ≡ link_of s code
row_value s code q o e answer = answer ∙ ap (λ x. row_link s x (code % 100)) (sym e)

pub row_past : (s : RuleSheet) (q n : ℕ) → 5 ≤ q → row_link s q n ≡ None
row_past s zero n h = absurd (omega arith)
row_past s (suc zero) n h = absurd (omega arith)
row_past s (suc (suc zero)) n h = absurd (omega arith)
row_past s (suc (suc (suc zero))) n h = absurd (omega arith)
row_past s (suc (suc (suc (suc zero)))) n h = absurd (omega arith)
row_past s (suc (suc (suc (suc (suc q))))) n h = refl

pub told_as : (s : RuleSheet) → Sound s → (code : ℕ) (o : Option Link) → o ≡ link_of s code → Tells s code o
told_as s ok code o e = subst (Tells s code) (sym e) (told s ok code)
