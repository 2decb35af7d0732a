-- Timetables that are written out, and a test that they are lawful. Assumes nothing.
use Rattle.std.proofs.Common.{◌≡◌, ℕ, zero, suc, ◌+◌, ◌*◌, ◌≤◌, Bool, true, false, ◌&&◌, leb, List, [], ◌∷◌, get_or, ℤ, pos, ◌+ℤ◌, ◌≤ℤ◌, is_some, Some, None, Option, unwrap_or, refl, arith}
use lib.Signed.{le_z}
use Rattle.std.proofs.lemmas.Int.{ints}
use Rattle.std.proofs.lemmas.Bool.{and_parts, false≢true, leb-true}
use Rattle.sheet.specs.declared.forms.Rule.{Rule}
use Rattle.sheet.specs.declared.forms.Rule.TheVariants.{Free, After, Within, At}
use Rattle.sheet.specs.Sheets.{RuleSheet, numbered, hours_of, duration}
use Rattle.sheet.specs.Timetables.{Timetable, start, Obeys, Lawful}

-- the timetable that has these starts for step 1, step 2 and so on
abbrev pub written : List (Option ℤ) → Timetable
written table = numbered None table

abbrev pub fits_test : RuleSheet → Option (ℕ × ℕ) → Option ℤ → Bool
fits_test s None None = true
fits_test s None (Some hour) = false
fits_test s (Some told) None = false
fits_test s (Some told) (Some hour) =
    le_z (pos 0) hour && (le_z (hour +ℤ pos told.0) (pos s.span) && leb told.0 s.period)

abbrev pub fit_test : RuleSheet → List (Option (ℕ × ℕ)) → List (Option ℤ) → Bool
fit_test s [] [] = true
fit_test s [] (y ∷ ys) = false
fit_test s (x ∷ xs) [] = false
fit_test s (x ∷ xs) (y ∷ ys) = fits_test s x y && fit_test s xs ys

abbrev pub obeys_test : RuleSheet → Timetable → Rule → Bool
obeys_test s t Free = true
obeys_test s t (After u v gap carry) = le_z (start t u +ℤ pos (duration s u + gap)) (start t v +ℤ pos (carry * s.period))
obeys_test s t (Within u v hours) = le_z (start t v) (start t u +ℤ pos hours)
obeys_test s t (At v hour) = le_z (start t v) (pos hour) && le_z (pos hour) (start t v)

abbrev pub obey_test : RuleSheet → Timetable → List Rule → Bool
obey_test s t [] = true
obey_test s t (rule ∷ rules) = obeys_test s t rule && obey_test s t rules

obeys : (s : RuleSheet) (t : Timetable) (rule : Rule) → obeys_test s t rule ≡ true → Obeys s t rule
obeys s t Free e = tt
obeys s t (After u v gap carry) e = omega (arith, ints)
obeys s t (Within u v hours) e = omega (arith, ints)
obeys s t (At v hour) e =
    let two = and_parts (le_z (start t v) (pos hour)) (le_z (pos hour) (start t v)) e in
    let low = two.0 in
    let high = two.1 in
    omega (arith, ints)

pub each_obeys : (s : RuleSheet) (t : Timetable) (rules : List Rule) → obey_test s t rules ≡ true
    → (n : ℕ) → Obeys s t (get_or rules n Free)
each_obeys s t [] e n = tt
each_obeys s t (rule ∷ rules) e zero = obeys s t rule (and_parts (obeys_test s t rule) (obey_test s t rules) e).0
each_obeys s t (rule ∷ rules) e (suc n) =
    each_obeys s t rules (and_parts (obeys_test s t rule) (obey_test s t rules) e).1 n

each_fits : (s : RuleSheet) (xs : List (Option (ℕ × ℕ))) (ys : List (Option ℤ)) → fit_test s xs ys ≡ true
    → (n : ℕ) → fits_test s (get_or xs n None) (get_or ys n None) ≡ true
each_fits s [] [] e n = refl
each_fits s [] (y ∷ ys) e n = absurd (false≢true e)
each_fits s (x ∷ xs) [] e n = absurd (false≢true e)
each_fits s (x ∷ xs) (y ∷ ys) e zero = (and_parts (fits_test s x y) (fit_test s xs ys) e).0
each_fits s (x ∷ xs) (y ∷ ys) e (suc n) = each_fits s xs ys (and_parts (fits_test s x y) (fit_test s xs ys) e).1 n

-- a step, if it is there, and its start
record Fits (s : RuleSheet) (step : Option (ℕ × ℕ)) (hour : Option ℤ) : Type 0 where
  both : is_some hour ≡ is_some step
  from_zero : is_some step ≡ true → pos 0 ≤ℤ unwrap_or hour (pos 0)
  in_span : is_some step ≡ true → (unwrap_or hour (pos 0) +ℤ pos (hours_of step)) ≤ℤ pos s.span
  in_period : is_some step ≡ true → hours_of step ≤ s.period

fits : (s : RuleSheet) (step : Option (ℕ × ℕ)) (hour : Option ℤ) → fits_test s step hour ≡ true → Fits s step hour
fits s None None e =
    record {
      both = refl;
      from_zero = λ there. absurd (false≢true there);
      in_span = λ there. absurd (false≢true there);
      in_period = λ there. absurd (false≢true there);
    }
fits s None (Some hour) e = absurd (false≢true e)
fits s (Some told) None e = absurd (false≢true e)
fits s (Some told) (Some hour) e =
    let one = and_parts (le_z (pos 0) hour) (le_z (hour +ℤ pos told.0) (pos s.span) && leb told.0 s.period) e in
    let two = and_parts (le_z (hour +ℤ pos told.0) (pos s.span)) (leb told.0 s.period) one.1 in
    let first = one.0 in
    let second = two.0 in
    record {
      both = refl;
      from_zero = λ there. omega (arith, ints);
      in_span = λ there. omega (arith, ints);
      in_period = λ there. leb-true told.0 s.period two.1;
    }

abbrev pub lawful_test : RuleSheet → List (Option ℤ) → Bool
lawful_test s table = fit_test s s.steps table && obey_test s (written table) s.rules

module _ (s : RuleSheet) (table : List (Option ℤ)) (passed : lawful_test s table ≡ true) where
  parts : (fit_test s s.steps table ≡ true) × (obey_test s (written table) s.rules ≡ true)
  parts = and_parts (fit_test s s.steps table) (obey_test s (written table) s.rules) passed

  at_place : (n : ℕ) → Fits s (get_or s.steps n None) (get_or table n None)
  at_place n = fits s (get_or s.steps n None) (get_or table n None) (each_fits s s.steps table parts.0 n)

  covers : (n : ℕ) → is_some (written table n) ≡ is_some (numbered None s.steps n)
  covers zero = refl
  covers (suc n) = (at_place n).both

  from_zero : (n : ℕ) → is_some (numbered None s.steps n) ≡ true → pos 0 ≤ℤ start (written table) n
  from_zero zero there = absurd (false≢true there)
  from_zero (suc n) there = (at_place n).from_zero there

  in_span : (n : ℕ) → is_some (numbered None s.steps n) ≡ true
      → (start (written table) n +ℤ pos (duration s n)) ≤ℤ pos s.span
  in_span zero there = absurd (false≢true there)
  in_span (suc n) there = (at_place n).in_span there

  in_period : (n : ℕ) → is_some (numbered None s.steps n) ≡ true → duration s n ≤ s.period
  in_period zero there = absurd (false≢true there)
  in_period (suc n) there = (at_place n).in_period there

  rules_hold : (r : ℕ) → Obeys s (written table) (numbered Free s.rules r)
  rules_hold zero = tt
  rules_hold (suc r) = each_obeys s (written table) s.rules parts.1 r

  pub written_lawful : Lawful s (written table)
  written_lawful =
      record { covers = covers; from_zero = from_zero; in_span = in_span; in_period = in_period; rules = rules_hold }
