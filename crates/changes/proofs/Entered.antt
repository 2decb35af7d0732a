-- A sheet that keeps every limit keeps them through every command that has no fault on it. Assumes nothing.
use Rattle.std.proofs.Common.{◌≡◌, ℕ, zero, suc, ◌≤◌, Bool, true, false, cond, ◌||◌, List, [], ◌∷◌, length, get_or, is_some, Some, None, Option, sym, refl, ap, ◌∙◌, subst, lit≤, eqb-true, leb-true}
use borrow.Author.Tests.{eqb-false, not-false}
use Rattle.std.proofs.lemmas.List.{length-map, length-set}
use Rattle.std.proofs.lemmas.Bool.{and_parts, and_from, false≢true, true≢false}
use Rattle.std.specs.Option.{option_map}
use Rattle.book.specs.Commands.{Instruction, add_step, remove_step, set_duration, put_after, put_within, put_at, remove_rule, set_period, set_span, set_vessels}
use Rattle.changes.proofs.Kept.{set_each, replaced_each, step_kept, rule_kept, asked_sound, from_test}
use Rattle.changes.specs.Changes.{asked, with_count}
use Rattle.changes.specs.Faults.{Check, ChecksRise, checks, first_of, first_fault, names, named, lacks}
use Rattle.changes.specs.Tests.{has}
use Rattle.changes.specs.declared.faults.CommandFault.{CommandFault}
use Rattle.sheet.proofs.Numbered.{length-replaced, told_step, told_some, numbered-replaced_other}
use Rattle.sheet.specs.Edits.{with_step, lasting}
use Rattle.sheet.specs.Limits.{From, StepFits, RuleFits, NameFits, FullSound}
use Rattle.sheet.specs.Sheets.{numbered, rule_at, HasStep, rule_sheet, without_name}
use Rattle.sheet.specs.declared.forms.Rule.{Rule}
use Rattle.sheet.specs.declared.forms.Rule.TheVariants.{Free, After, Within, At}
use Rattle.sheet.specs.declared.forms.Sheet.{Sheet}
use Rattle.sheet.specs.declared.forms.Step.{Step}

-- a command has none of the faults in a list
abbrev Clear : List Check → Type 0
Clear [] = Unit {0}
Clear (check ∷ rest) = (check.0 ≡ false) × Clear rest

clear : (cs : List Check) → first_of cs ≡ None → Clear cs
clear [] e = tt
clear (check ∷ rest) e = by_test check.0 check.1 (clear rest) e
  where
    by_test : (b : Bool) (fault : CommandFault) → (first_of rest ≡ None → Clear rest) → cond b (Some fault) (first_of rest) ≡ None → (b ≡ false) × Clear rest
    by_test true fault more e = absurd (true≢false (ap is_some e))
    by_test false fault more e = (refl, more e)

or_false : (a b : Bool) → (a || b) ≡ false → (a ≡ false) × (b ≡ false)
or_false true b e = absurd (true≢false e)
or_false false b e = (refl, e)

-- a name without fault is eight bytes long
pub name_length : (sheet : Sheet) (n duration kind : ℕ) (name : List ℕ) → first_fault sheet (add_step n duration kind name) ≡ None → length name ≡ 8
name_length sheet n duration kind name e =
    let h = clear (checks sheet (add_step n duration kind name)) e in
    eqb-true (length name) 8 (and_parts _ _ (not-false _ h.1.1.1.1.0)).0

named_at : (n : ℕ) (rules : List Rule) → named n rules ≡ false → (r : ℕ) → names n (get_or rules r Free) ≡ false
named_at n [] e r = refl
named_at n (rule ∷ rules) e zero = (or_false _ _ e).0
named_at n (rule ∷ rules) e (suc r) = named_at n rules (or_false _ _ e).1 r

named_numbered : (n : ℕ) (rules : List Rule) → named n rules ≡ false → (r : ℕ) → names n (numbered Free rules r) ≡ false
named_numbered n rules e zero = refl
named_numbered n rules e (suc r) = named_at n rules e r

-- a rule that does not name a step has its steps without that one
rule_spared : (There Left : ℕ → Type 0) (n : ℕ) → ((m : ℕ) → (m ≡ n → ⊥) → There m → Left m) → (rule : Rule) → names n rule ≡ false → RuleFits There rule → RuleFits Left rule
rule_spared There Left n spare Free e fits = tt
rule_spared There Left n spare (After u v gap carry) e fits =
    let d = or_false _ _ e in (spare u (eqb-false u n d.0) fits.0, spare v (eqb-false v n d.1) fits.1, fits.2, fits.3)
rule_spared There Left n spare (Within u v hours) e fits =
    let d = or_false _ _ e in (spare u (eqb-false u n d.0) fits.0, spare v (eqb-false v n d.1) fits.1, fits.2)
rule_spared There Left n spare (At v hour) e fits = (spare v (eqb-false v n e) fits.0, fits.1)

module _ (sheet : Sheet) (ok : FullSound sheet) where
  removed_kept : (n : ℕ) → named n sheet.rules ≡ false → FullSound (with_step sheet n None)
  removed_kept n free =
      let new = with_step sheet n None in
      let fits : (m : ℕ) → StepFits (option_map without_name (numbered None new.steps m)) =
      replaced_each (λ _ o. StepFits (option_map without_name o)) None None sheet.steps (λ m. subst StepFits (told_step sheet m) (ok.rules.steps m)) n tt in
      let spare : (m : ℕ) → (m ≡ n → ⊥) → HasStep (rule_sheet sheet) m → HasStep (rule_sheet new) m =
      λ m other here. told_some new m ∙ ap is_some (numbered-replaced_other None sheet.steps n m None other) ∙ sym (told_some sheet m) ∙ here in
      record {
        rules = record {
          period = ok.rules.period;
          span = ok.rules.span;
          step_count = length-map new.steps (option_map without_name) ∙ length-replaced None sheet.steps n None ∙ sym (length-map sheet.steps (option_map without_name)) ∙ ok.rules.step_count;
          rule_count = ok.rules.rule_count;
          steps = λ m. subst StepFits (sym (told_step new m)) (fits m);
          rules = λ r. rule_spared (HasStep (rule_sheet sheet)) (HasStep (rule_sheet new)) n spare (rule_at (rule_sheet sheet) r) (named_numbered n sheet.rules free r) (ok.rules.rules r);
        };
        names = replaced_each (λ _. NameFits) None None sheet.steps ok.names n tt;
        kinds = ok.kinds;
        counts = ok.counts;
      }

  lasting_kept : (n duration : ℕ) → From 1 999 duration → (o : Option Step) → is_some o ≡ true → StepFits (option_map without_name o) → NameFits o → FullSound (with_step sheet n (option_map (lasting duration) o))
  lasting_kept n duration hours None e fits name = absurd (false≢true e)
  lasting_kept n duration hours (Some step) e fits name = step_kept sheet ok n (lasting duration step) hours fits.1 name

  count_kept : (kind count : ℕ) → count ≤ 16 → FullSound (with_count sheet kind count)
  count_kept kind count few = record {
    rules = ok.rules;
    names = ok.names;
    kinds = length-set sheet.stock kind count ∙ ok.kinds;
    counts = set_each (λ _ c. c ≤ 16) 0 count sheet.stock ok.counts kind few;
  }

-- a command without fault leaves a sheet within the limits
pub entered_sound : (sheet : Sheet) → FullSound sheet → (i : Instruction) → first_fault sheet i ≡ None → FullSound (asked sheet i)
entered_sound sheet ok (add_step n duration kind name) e =
    let h = clear (checks sheet (add_step n duration kind name)) e in
    asked_sound sheet ok (add_step n duration kind name)
    (and_from _ _ (not-false _ h.0) (and_from _ _ (not-false _ h.1.1.0) (and_from _ _ (not-false _ h.1.1.1.0) (not-false _ h.1.1.1.1.0))))
entered_sound sheet ok (remove_step n) e =
    let h = clear (checks sheet (remove_step n)) e in
    removed_kept sheet ok n h.1.1.0
entered_sound sheet ok (set_duration n duration) e =
    let h = clear (checks sheet (set_duration n duration)) e in
    lasting_kept sheet ok n duration (from_test _ _ _ (not-false _ h.1.1.0)) (numbered None sheet.steps n)
    (sym (told_some sheet n) ∙ not-false _ h.1.0) (subst StepFits (told_step sheet n) (ok.rules.steps n)) (ok.names n)
entered_sound sheet ok (put_after r u v gap carry) e =
    let h = clear (checks sheet (put_after r u v gap carry)) e in
    let there = or_false (lacks sheet u) (lacks sheet v) h.1.0 in
    asked_sound sheet ok (put_after r u v gap carry)
    (and_from _ _ (not-false _ h.1.1.0) (and_from _ _ (not-false (has sheet u) there.0) (and_from _ _ (not-false (has sheet v) there.1) (and_from _ _ (not-false _ h.1.1.1.1.0) (not-false _ h.1.1.1.1.1.0)))))
entered_sound sheet ok (put_within r u v hours) e =
    let h = clear (checks sheet (put_within r u v hours)) e in
    let there = or_false (lacks sheet u) (lacks sheet v) h.1.0 in
    asked_sound sheet ok (put_within r u v hours)
    (and_from _ _ (not-false _ h.1.1.0) (and_from _ _ (not-false (has sheet u) there.0) (and_from _ _ (not-false (has sheet v) there.1) (not-false _ h.1.1.1.1.0))))
entered_sound sheet ok (put_at r v hour) e =
    let h = clear (checks sheet (put_at r v hour)) e in
    asked_sound sheet ok (put_at r v hour) (and_from _ _ (not-false _ h.1.1.0) (and_from _ _ (not-false _ h.1.0) (not-false _ h.1.1.1.1.0)))
entered_sound sheet ok (remove_rule r) e = rule_kept sheet ok r Free tt
entered_sound sheet ok (set_period hours) e = asked_sound sheet ok (set_period hours) (not-false _ (clear (checks sheet (set_period hours)) e).0)
entered_sound sheet ok (set_span hours) e = asked_sound sheet ok (set_span hours) (not-false _ (clear (checks sheet (set_span hours)) e).0)
entered_sound sheet ok (set_vessels kind count) e =
    let h = clear (checks sheet (set_vessels kind count)) e in
    count_kept sheet ok kind count (leb-true _ _ (not-false _ h.1.0))

pub checks_rise : ChecksRise
checks_rise sheet (add_step n duration kind name) = (lit≤ tt, (lit≤ tt, (lit≤ tt, (lit≤ tt, tt))))
checks_rise sheet (remove_step n) = (lit≤ tt, (lit≤ tt, tt))
checks_rise sheet (set_duration n duration) = (lit≤ tt, (lit≤ tt, tt))
checks_rise sheet (put_after r u v gap carry) = (lit≤ tt, (lit≤ tt, (lit≤ tt, (lit≤ tt, (lit≤ tt, tt)))))
checks_rise sheet (put_within r u v hours) = (lit≤ tt, (lit≤ tt, (lit≤ tt, (lit≤ tt, tt))))
checks_rise sheet (put_at r v hour) = (lit≤ tt, (lit≤ tt, (lit≤ tt, (lit≤ tt, tt))))
checks_rise sheet (remove_rule r) = (lit≤ tt, tt)
checks_rise sheet (set_period hours) = tt
checks_rise sheet (set_span hours) = tt
checks_rise sheet (set_vessels kind count) = (lit≤ tt, tt)
