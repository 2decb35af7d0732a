-- The card of a sheet that keeps every limit has no fault and stands for that sheet. Assumes nothing.
use Rattle.std.proofs.Common.{◌≡◌, ℕ, zero, suc, ◌<◌, ◌≤◌, Bool, true, List, [], ◌∷◌, length, replicate, Some, None, Option, sym, refl, ap, ◌∙◌, subst, arith, lt-ltb, eq-eqb, le-leb}
use mathlib.Core.HLevel.{Unit-prop, ×_prop, Π_prop}
use native.Mathlib.Bridge.{le_prop}
use native.Mathlib.Nat.{ℕ_set}
use Rattle.std.proofs.ByRecursion.{All-append}
use Rattle.std.proofs.lemmas.List.{append-nil, length-map}
use Rattle.std.proofs.lemmas.Bool.{and_from}
use Rattle.std.specs.Option.{option_map}
use Rattle.std.specs.List.{AllByRecursion}
use Rattle.book.specs.Commands.{Instruction, add_step, put_after, put_within, put_at, set_period, set_span}
use Rattle.card.proofs.Checks.{verdict_short}
use Rattle.card.specs.Cards.{ended, judged, verdict, stands_for}
use Rattle.card.specs.Order.{subject, place_after, a_step, a_rule}
use Rattle.card.specs.declared.order.Stage.{Stage}
use Rattle.card.specs.declared.order.Stage.TheVariants.{Period, Span, Steps, Rules}
use Rattle.changes.specs.Changes.{asked}
use Rattle.changes.specs.Tests.{in_limits, has}
use Rattle.checked.specs.Props.{sound_prop}
use Rattle.sheet.proofs.Numbered.{told_step}
use Rattle.sheet.specs.Edits.{empty_sheet, replaced}
use Rattle.sheet.specs.Limits.{StepFits, RuleFits, NameFits, FullSound}
use Rattle.sheet.specs.Sheets.{numbered, HasStep, rule_sheet, without_name}
use Rattle.sheet.specs.declared.forms.Rule.{Rule}
use Rattle.sheet.specs.declared.forms.Rule.TheVariants.{Free, After, Within, At}
use Rattle.sheet.specs.declared.forms.Sheet.{Sheet}
use Rattle.sheet.specs.declared.forms.Step.{Step}
use Rattle.card_writing.proofs.Bytes.{up_to_none, up_to_suc}
use Rattle.card_writing.proofs.Passing.{Leads, leads_none, leads_one, leads_both, leads_to_none, leads_to_more, from_passes, name_passes}
use Rattle.card_writing.proofs.Tables.{Copied, copied_none, copied_more, copied_absent, copied_all}
use Rattle.card_writing.proofs.Walked.{Spells, placed_from, items_spelled}
use Rattle.card_writing.specs.Contents.{step_command, rule_command, up_to, steps_up_to, rules_up_to, hours_of, commands_of, card_of, unstocked}

-- there is only one proof that a full sheet keeps every limit
name_prop : (o : Option Step) → IsProp (NameFits o)
name_prop None = Unit-prop
name_prop (Some step) = ×_prop (ℕ_set _ _) (Π_prop (λ k. Π_prop (λ h. ×_prop le_prop le_prop)))

pub full_prop : (sheet : Sheet) → IsProp (FullSound sheet)
full_prop sheet x y =
    λ i.
    record {
      rules = sound_prop (rule_sheet sheet) x.rules y.rules i;
      names = Π_prop (λ n. name_prop (numbered None sheet.steps n)) x.names y.names i;
      kinds = ℕ_set _ _ x.kinds y.kinds i;
      counts = Π_prop (λ kind. le_prop) x.counts y.counts i;
    }

all_up_to : (P : Instruction → Type 0) (what : ℕ → List Instruction) → ((k : ℕ) → AllByRecursion P (what k)) → (n : ℕ) → AllByRecursion P (up_to what n)
all_up_to P what each zero = subst (AllByRecursion P) (sym (up_to_none what)) tt
all_up_to P what each (suc n) = subst (AllByRecursion P) (sym (up_to_suc what n)) (All-append P (up_to what n) (what (suc n)) (all_up_to P what each n) (each (suc n)))

step_spells : (n : ℕ) (o : Option Step) → NameFits o → AllByRecursion Spells (step_command n o)
step_spells n None fits = tt
step_spells n (Some step) fits = (eq-eqb _ 8 fits.0, tt)

rule_spells : (r : ℕ) (rule : Rule) → AllByRecursion Spells (rule_command r rule)
rule_spells r Free = tt
rule_spells r (After u v gap carry) = (refl, tt)
rule_spells r (Within u v hours) = (refl, tt)
rule_spells r (At v hour) = (refl, tt)

module _ (sheet : Sheet) (ok : FullSound sheet) where
  -- a sheet that a part of the card has built
  abbrev built : List (Option Step) → List Rule → Sheet
  built steps rules = record { steps = steps; rules = rules; period = sheet.period; span = sheet.span; stock = replicate 8 0 }

  hours_lead : Leads Period empty_sheet (hours_of sheet) (Steps None) (built (replicate 31 None) (replicate 96 Free))
  hours_lead =
      leads_both
      (leads_one Period empty_sheet (set_period sheet.period) Span refl (from_passes 1 999 sheet.period ok.rules.period))
      (leads_one Span _ (set_span sheet.span) (Steps None) refl (from_passes 1 2000 sheet.span ok.rules.span))

  -- the steps up to number n are on the sheet built
  record StepsTo (n : ℕ) : Type 0 where
    pub stage : Stage
    pub table : List (Option Step)
    pub copied : Copied None sheet.steps n table
    pub leads : Leads (Steps None) (built (replicate 31 None) (replicate 96 Free)) (steps_up_to sheet.steps n) stage (built table (replicate 96 Free))
    pub step_next : (m : ℕ) → n < m → place_after stage (a_step m) ≡ Some (Steps (Some m))
    pub rule_next : (m : ℕ) → place_after stage (a_rule m) ≡ Some (Rules m)
    pub may_end : (end : ℕ) (s : Sheet) → ended end stage s ≡ stands_for s

  step_count : length sheet.steps ≡ 31
  step_count = sym (length-map sheet.steps (option_map without_name)) ∙ ok.rules.step_count

  step_passes : (n : ℕ) (step : Step) → numbered None sheet.steps n ≡ Some step → 1 ≤ n → n ≤ 31 → (there : ℕ → Bool) → in_limits there (add_step n step.duration step.kind step.name) ≡ true
  step_passes n step is low high there =
      let fits = subst StepFits (told_step sheet n ∙ ap (option_map without_name) is) (ok.rules.steps n) in
      let name = subst NameFits is (ok.names n) in
      and_from _ _ (from_passes 1 31 n (low, high)) (and_from _ _ (from_passes 1 999 step.duration fits.0) (and_from _ _ (le-leb step.kind 7 fits.1) (name_passes step.name name.0 name.1)))

  step_more : (n : ℕ) → suc n ≤ 31 → StepsTo n → (o : Option Step) → numbered None sheet.steps (suc n) ≡ o → StepsTo (suc n)
  step_more n high before None is = record {
    stage = before.stage;
    table = before.table;
    copied = copied_absent None sheet.steps before.copied is;
    leads = leads_to_more _ n (ap (step_command (suc n)) is) before.leads leads_none;
    step_next = λ m h. before.step_next m (omega arith);
    rule_next = before.rule_next;
    may_end = before.may_end;
  }
  step_more n high before (Some step) is = record {
    stage = Steps (Some (suc n));
    table = replaced before.table (suc n) (Some step);
    copied = copied_more None sheet.steps before.copied (Some step) is (omega (arith, step_count));
    leads =
        leads_to_more _ n (ap (step_command (suc n)) is) before.leads
        (leads_one before.stage (built before.table (replicate 96 Free)) (add_step (suc n) step.duration step.kind step.name) (Steps (Some (suc n))) (before.step_next (suc n) (omega arith)) (step_passes (suc n) step is (omega arith) high (has (built before.table (replicate 96 Free)))));
    step_next = λ m h. rw (lt-ltb (suc n) m h);
    rule_next = λ m. refl;
    may_end = λ end s. refl;
  }

  steps_to : (n : ℕ) → n ≤ 31 → StepsTo n
  steps_to zero h = record {
    stage = Steps None;
    table = replicate 31 None;
    copied = copied_none None sheet.steps 31 step_count;
    leads = leads_to_none _;
    step_next = λ m h. refl;
    rule_next = λ m. refl;
    may_end = λ end s. refl;
  }
  steps_to (suc n) h = step_more n h (steps_to n (omega arith)) (numbered None sheet.steps (suc n)) refl

  -- the rules up to number n are on the sheet built, behind the steps
  record RulesTo (start : Stage) (n : ℕ) : Type 0 where
    pub stage : Stage
    pub table : List Rule
    pub copied : Copied Free sheet.rules n table
    pub leads : Leads start (built sheet.steps (replicate 96 Free)) (rules_up_to sheet.rules n) stage (built sheet.steps table)
    pub rule_next : (m : ℕ) → n < m → place_after stage (a_rule m) ≡ Some (Rules m)
    pub may_end : (end : ℕ) (s : Sheet) → ended end stage s ≡ stands_for s

  module _ (start : Stage) where
    -- one more rule, by its command
    rule_put : (n : ℕ) → suc n ≤ 96 → (before : RulesTo start n) (rule : Rule) → numbered Free sheet.rules (suc n) ≡ rule → (i : Instruction) → rule_command (suc n) rule ≡ i ∷ [] → subject i ≡ a_rule (suc n) → ((table : List Rule) → asked (built sheet.steps table) i ≡ built sheet.steps (replaced table (suc n) rule)) → in_limits (has sheet) i ≡ true → RulesTo start (suc n)
    rule_put n high before rule is i command about puts fits = record {
      stage = Rules (suc n);
      table = replaced before.table (suc n) rule;
      copied = copied_more Free sheet.rules before.copied rule is (omega (arith, ok.rules.rule_count));
      leads =
          leads_to_more _ n (ap (rule_command (suc n)) is ∙ command) before.leads
          (subst (Leads before.stage (built sheet.steps before.table) (i ∷ []) (Rules (suc n))) (puts before.table)
          (leads_one before.stage (built sheet.steps before.table) i (Rules (suc n)) (ap (place_after before.stage) about ∙ before.rule_next (suc n) (omega arith)) fits));
      rule_next = λ m h. rw (lt-ltb (suc n) m h);
      may_end = λ end s. refl;
    }

    rule_more : (n : ℕ) → suc n ≤ 96 → RulesTo start n → (rule : Rule) → numbered Free sheet.rules (suc n) ≡ rule → RuleFits (HasStep (rule_sheet sheet)) rule → RulesTo start (suc n)
    rule_more n high before Free is fits = record {
      stage = before.stage;
      table = before.table;
      copied = copied_absent Free sheet.rules before.copied is;
      leads = leads_to_more _ n (ap (rule_command (suc n)) is) before.leads leads_none;
      rule_next = λ m h. before.rule_next m (omega arith);
      may_end = before.may_end;
    }
    rule_more n high before (After u v gap carry) is fits =
        rule_put n high before (After u v gap carry) is (put_after (suc n) u v gap carry) refl refl (λ table. refl)
        (and_from _ _ (from_passes 1 96 (suc n) (omega arith, high)) (and_from _ _ fits.0 (and_from _ _ fits.1 (and_from _ _ (le-leb gap 999 fits.2) (le-leb carry 7 fits.3)))))
    rule_more n high before (Within u v hours) is fits =
        rule_put n high before (Within u v hours) is (put_within (suc n) u v hours) refl refl (λ table. refl)
        (and_from _ _ (from_passes 1 96 (suc n) (omega arith, high)) (and_from _ _ fits.0 (and_from _ _ fits.1 (le-leb hours 999 fits.2))))
    rule_more n high before (At v hour) is fits =
        rule_put n high before (At v hour) is (put_at (suc n) v hour) refl refl (λ table. refl)
        (and_from _ _ (from_passes 1 96 (suc n) (omega arith, high)) (and_from _ _ fits.0 (le-leb hour 1999 fits.1)))

    rules_to : RulesTo start 0 → (n : ℕ) → n ≤ 96 → RulesTo start n
    rules_to none zero h = none
    rules_to none (suc n) h = rule_more n h (rules_to none n (omega arith)) (numbered Free sheet.rules (suc n)) refl (ok.rules.rules (suc n))

  all_steps : StepsTo 31
  all_steps = steps_to 31 (omega arith)

  all_rules : RulesTo all_steps.stage 96
  all_rules = rules_to all_steps.stage (record {
    stage = all_steps.stage;
    table = replicate 96 Free;
    copied = copied_none Free sheet.rules 96 ok.rules.rule_count;
    leads = leads_to_none _;
    rule_next = λ m h. all_steps.rule_next m;
    may_end = all_steps.may_end;
  }) 96 (omega arith)

  whole_leads : Leads Period empty_sheet (commands_of sheet) all_rules.stage (unstocked sheet)
  whole_leads =
      let steps = copied_all None sheet.steps all_steps.copied (omega (arith, step_count)) in
      let rules = copied_all Free sheet.rules all_rules.copied (omega (arith, ok.rules.rule_count)) in
      let first = subst (λ table. Leads (Steps None) (built (replicate 31 None) (replicate 96 Free)) (steps_up_to sheet.steps 31) all_steps.stage (built table (replicate 96 Free))) steps all_steps.leads in
      let second = subst (λ table. Leads all_steps.stage (built sheet.steps (replicate 96 Free)) (rules_up_to sheet.rules 96) all_rules.stage (built sheet.steps table)) rules all_rules.leads in
      leads_both hours_lead (leads_both first second)

  spells : AllByRecursion Spells (commands_of sheet)
  spells =
      All-append Spells (hours_of sheet) _ (refl, (refl, tt))
      (All-append Spells (steps_up_to sheet.steps 31) (rules_up_to sheet.rules 96) (all_up_to Spells _ (λ n. step_spells n _ (ok.names n)) 31) (all_up_to Spells _ (λ r. rule_spells r _) 96))

  pub card_stands : length (card_of sheet) ≤ 4096 → verdict (card_of sheet) ≡ stands_for (unstocked sheet)
  card_stands short =
      let end = length (card_of sheet) in
      let led = whole_leads.on end 0 [] in
      verdict_short (card_of sheet) short
      ∙ ap (judged end Period empty_sheet) (items_spelled (commands_of sheet) spells)
      ∙ ap (λ l. judged end Period empty_sheet (placed_from 0 l)) (sym (append-nil (commands_of sheet)))
      ∙ led.1
      ∙ all_rules.may_end end (unstocked sheet)
