-- The worked example filled in, alone and beside a fourth step. Assumes nothing.
use Rattle.std.proofs.Common.{◌≡◌, ℕ, zero, suc, ◌-◌, ◌<◌, ◌≤◌, true, false, ◌⊎◌, List, ◌∷◌, map, get_or, replicate, ℤ, pos, ◌+ℤ◌, ◌-ℤ◌, ◌≤ℤ◌, is_some, Some, None, Option, sym, refl, ◌∙◌, subst, inl, le_refl, arith, lit≤}
use Rattle.std.specs.Option.{option_map}
use Rattle.std.proofs.lemmas.Int.{ints}
use Rattle.std.proofs.lemmas.Bool.{false≢true, true≢false}
use Rattle.choose.specs.Calmest.{peak_in, IsLeastCrowded, least_crowded_hour}
use Rattle.choose.specs.Choosing.{HourRule, earliest, least_crowded}
use Rattle.choose.specs.Views.{View}
use Rattle.choose.proofs.Whole.{least_crowded_is, least_crowded_only}
use Rattle.sheet.specs.Edits.{replaced}
use Rattle.sheet.specs.Sheets.{HasStep, without_name}
use Rattle.sheet.specs.Timetables.{Timetable, start, Lawful}
use Rattle.vessels.specs.declared.placed.Placed.{Placed}
use Rattle.windows.specs.Placing.{starts, view_of, placed_at, Reached, further, Filled}
use Rattle.windows.specs.Windows.{IsWindow, Waiting, IsNext}
use Rattle.figures.specs.Example.{brew, brew_beside}
use Rattle.figures.proofs.Written.{lawful_test}
use Rattle.figures.proofs.Filling.{agree_test, window_by, Roomy, next_by}
use Rattle.figures.proofs.Course.{hours, none_yet, mashed, fermented, cropped, Limits, Course, three_placed}

-- a table without steps has none
no_step : (count n : ℕ) → is_some (get_or (map (option_map without_name) (replicate count None)) n None) ≡ false
no_step zero n = refl
no_step (suc count) zero = refl
no_step (suc count) (suc n) = no_step count n

pub no_fourth : (n : ℕ) → HasStep brew (suc (suc (suc (suc n)))) → ⊥
no_fourth n there = true≢false (sym there ∙ no_step 28 n)

brew_limits : (t : Timetable) → Lawful brew t → Limits (start t 1) (start t 2) (start t 3)
brew_limits t k =
    let one : (start t 1 +ℤ pos 6) ≤ℤ (start t 2 +ℤ pos 0) = k.rules 1 in
    let two : (start t 2 +ℤ pos 20) ≤ℤ (start t 3 +ℤ pos 0) = k.rules 2 in
    record {
      from_zero = k.from_zero 1 refl;
      mash_first = omega (arith, ints);
      then_crop = omega (arith, ints);
      again = k.rules 3;
      in_span = k.in_span 3 refl;
    }

brew_course : Course brew (replicate 28 None)
brew_course =
    record {
      limits = brew_limits;
      mash = refl;
      ferment = refl;
      crop = refl;
      early = refl;
      late = refl;
      long = refl;
      aged = refl;
      wide = λ placed agrees m there. absurd (no_fourth m there);
    }

-- the brew under earliest
pub brew_filled : Filled brew earliest cropped
brew_filled =
    record { reached = three_placed brew (replicate 28 None) brew_course earliest refl refl refl; none_left = none_left }
  where
    none_left : (n : ℕ) → Waiting brew (starts cropped) n → ⊥
    none_left zero w = false≢true w.there
    none_left (suc zero) w = true≢false w.not_placed
    none_left (suc (suc zero)) w = true≢false w.not_placed
    none_left (suc (suc (suc zero))) w = true≢false w.not_placed
    none_left (suc (suc (suc (suc n)))) w = no_fourth n w.there

-- what is written for a starter at an hour
abbrev starter_at : ℕ → List (Option ℤ)
starter_at hour = Some (pos hour) ∷ replicate 27 None

-- The starts that show the windows of a brew beside a starter of so many hours.
pub record Tried (d : ℕ) : Type 0 where
  pub short : d ≤ 30
  pub early : lawful_test (brew_beside d) (hours 0 6 26 (starter_at 0)) ≡ true
  pub late : lawful_test (brew_beside d) (hours 30 36 56 (starter_at 0)) ≡ true
  pub long : lawful_test (brew_beside d) (hours 0 36 56 (starter_at 0)) ≡ true
  pub aged : lawful_test (brew_beside d) (hours 0 6 48 (starter_at 0)) ≡ true
  pub end : lawful_test (brew_beside d) (hours 0 6 26 (starter_at (60 - d))) ≡ true

module _ (d : ℕ) (tried : Tried d) where
  no_fifth : (n : ℕ) → HasStep (brew_beside d) (suc (suc (suc (suc (suc n))))) → ⊥
  no_fifth n there = true≢false (sym there ∙ no_step 27 n)

  starter_window : (placed : List (Option Placed)) → ((any : List (Option ℤ)) → agree_test placed (hours 0 6 26 any) ≡ true)
      → IsWindow (brew_beside d) (starts placed) 4 (pos 0) (pos (60 - d))
  starter_window placed agrees =
      window_by (brew_beside d) placed 4 (pos 0) (pos (60 - d))
      (record { table = hours 0 6 26 (starter_at 0); lawful = tried.early; agrees = agrees _; has = refl })
      (record { table = hours 0 6 26 (starter_at (60 - d)); lawful = tried.end; agrees = agrees _; has = refl })
      (λ t k agreed.
      let low : pos 0 ≤ℤ start t 4 = k.from_zero 4 refl in
      let high : (start t 4 +ℤ pos d) ≤ℤ pos 60 = k.in_span 4 refl in
      let short = tried.short in
      (low, omega (arith, ints)))

  starter_wide : (placed : List (Option Placed)) → ((any : List (Option ℤ)) → agree_test placed (hours 0 6 26 any) ≡ true)
      → (m : ℕ) → HasStep (brew_beside d) (suc (suc (suc (suc m))))
      → Roomy (brew_beside d) (starts placed) (suc (suc (suc (suc m)))) (pos 30)
  starter_wide placed agrees zero there =
      let short = tried.short in
      record { first = pos 0; last = pos (60 - d); window = starter_window placed agrees; wide = omega (arith, ints) }
  starter_wide placed agrees (suc m) there = absurd (no_fifth m there)

  beside_limits : (t : Timetable) → Lawful (brew_beside d) t → Limits (start t 1) (start t 2) (start t 3)
  beside_limits t k =
      let one : (start t 1 +ℤ pos 6) ≤ℤ (start t 2 +ℤ pos 0) = k.rules 1 in
      let two : (start t 2 +ℤ pos 20) ≤ℤ (start t 3 +ℤ pos 0) = k.rules 2 in
      record {
        from_zero = k.from_zero 1 refl;
        mash_first = omega (arith, ints);
        then_crop = omega (arith, ints);
        again = k.rules 3;
        in_span = k.in_span 3 refl;
      }

  beside_course : Course (brew_beside d) (starter_at 0)
  beside_course =
      record {
        limits = beside_limits;
        mash = refl;
        ferment = refl;
        crop = refl;
        early = tried.early;
        late = tried.late;
        long = tried.long;
        aged = tried.aged;
        wide = starter_wide;
      }

  only_starter : (m : ℕ) → Waiting (brew_beside d) (starts cropped) m
      → (m ≡ 4) ⊎ ((4 < m) × Roomy (brew_beside d) (starts cropped) m (pos (60 - d) -ℤ pos 0))
  only_starter zero w = absurd (false≢true w.there)
  only_starter (suc zero) w = absurd (true≢false w.not_placed)
  only_starter (suc (suc zero)) w = absurd (true≢false w.not_placed)
  only_starter (suc (suc (suc zero))) w = absurd (true≢false w.not_placed)
  only_starter (suc (suc (suc (suc zero)))) w = inl refl
  only_starter (suc (suc (suc (suc (suc m))))) w = absurd (no_fifth m w.there)

  starter_next : IsNext (brew_beside d) (starts cropped) 4
  starter_next =
      next_by (brew_beside d) (starts cropped) 4 (pos 0) (pos (60 - d)) (record { there = refl; not_placed = refl })
      (starter_window cropped (λ any. refl)) only_starter

  -- a rule that names the first hour for the three steps, and this hour for the starter
  pub beside_filled : (rule : HourRule) (hour : ℕ)
      → rule.hour (view_of (brew_beside d) none_yet 1 6 0 0 30) ≡ 0
      → rule.hour (view_of (brew_beside d) mashed 2 20 1 6 36) ≡ 6
      → rule.hour (view_of (brew_beside d) fermented 3 4 2 26 48) ≡ 26
      → rule.hour (view_of (brew_beside d) cropped 4 d 1 0 (60 - d)) ≡ hour
      → Filled (brew_beside d) rule (replaced cropped 4 (Some (placed_at hour d 1)))
  beside_filled rule hour one two three four =
      record {
        reached =
            subst (λ (h : ℕ). Reached (brew_beside d) rule (replaced cropped 4 (Some (placed_at h d 1)))) four
            (further cropped 4 d 1 0 (60 - d)
            (three_placed (brew_beside d) (starter_at 0) beside_course rule one two three)
            starter_next refl (starter_window cropped (λ any. refl)));
        none_left = none_left;
      }
    where
      none_left : (n : ℕ) → Waiting (brew_beside d) (starts (replaced cropped 4 (Some (placed_at hour d 1)))) n → ⊥
      none_left zero w = false≢true w.there
      none_left (suc zero) w = true≢false w.not_placed
      none_left (suc (suc zero)) w = true≢false w.not_placed
      none_left (suc (suc (suc zero))) w = true≢false w.not_placed
      none_left (suc (suc (suc (suc zero)))) w = true≢false w.not_placed
      none_left (suc (suc (suc (suc (suc n))))) w = no_fifth n w.there

-- beside a starter of 6 hours, under earliest
pub six_filled : Filled (brew_beside 6) earliest (replaced cropped 4 (Some (placed_at 0 6 1)))
six_filled =
    beside_filled 6 (record { short = lit≤ tt; early = refl; late = refl; long = refl; aged = refl; end = refl })
    earliest 0 refl refl refl refl

-- an hour that no other of the window beats is the one that least crowded names
named : (v : View) (hour : ℕ) → IsLeastCrowded v hour → least_crowded_hour v ≡ hour
named v hour least = (least_crowded_only v hour least).only (least_crowded_hour v) (least_crowded_is v)

-- that is the first, if it meets no crowd
first_named : (v : View) → peak_in v v.first ≡ 0 → least_crowded_hour v ≡ v.first
first_named v calm =
    named v v.first
    (record {
      not_before = le_refl v.first;
      not_after = omega arith;
      smallest = λ h low high. omega arith;
      earliest = λ h low high. absurd (omega arith);
    })

abbrev starter_view : View
starter_view = view_of (brew_beside 4) cropped 4 4 1 0 56

-- the ferment is under way at the hours 0 and 1 of every day
crowded : (h : ℕ) → 0 ≤ h → h < 2 → peak_in starter_view 2 < peak_in starter_view h
crowded zero low high = lit≤ tt
crowded (suc zero) low high = lit≤ tt
crowded (suc (suc h)) low high = absurd (omega arith)

starter_named : least_crowded_hour starter_view ≡ 2
starter_named =
    let calm : peak_in starter_view 2 ≡ 0 = refl in
    named starter_view 2
    (record {
      not_before = lit≤ tt;
      not_after = lit≤ tt;
      smallest = λ h low high. omega arith;
      earliest = crowded;
    })

-- beside a starter of 4 hours, under least crowded
pub four_filled : Filled (brew_beside 4) least_crowded (replaced cropped 4 (Some (placed_at 2 4 1)))
four_filled =
    beside_filled 4 (record { short = lit≤ tt; early = refl; late = refl; long = refl; aged = refl; end = refl })
    least_crowded 2 (first_named (view_of (brew_beside 4) none_yet 1 6 0 0 30) refl)
    (first_named (view_of (brew_beside 4) mashed 2 20 1 6 36) refl)
    (first_named (view_of (brew_beside 4) fermented 3 4 2 26 48) refl) starter_named
