-- Mash, ferment and crop placed one after the other, whatever further steps the sheet has. Assumes nothing.
use Rattle.std.proofs.Common.{◌≡◌, ℕ, zero, suc, ◌<◌, true, ◌⊎◌, List, ◌∷◌, replicate, ℤ, pos, ◌+ℤ◌, ◌≤ℤ◌, is_some, Some, None, Option, refl, ap, subst, inl, inr, arith}
use lib.Signed.{le_z_yes}
use Rattle.std.proofs.lemmas.Int.{ints}
use Rattle.std.proofs.lemmas.Bool.{false≢true, true≢false}
use Rattle.choose.specs.Choosing.{HourRule}
use Rattle.sheet.specs.Edits.{replaced}
use Rattle.sheet.specs.Sheets.{RuleSheet, step_at, HasStep}
use Rattle.sheet.specs.Timetables.{Timetable, start, Lawful}
use Rattle.vessels.specs.declared.placed.Placed.{Placed}
use Rattle.windows.specs.Placing.{starts, view_of, placed_at, Reached, nothing, further}
use Rattle.windows.specs.Windows.{IsWindow, Waiting, IsNext}
use Rattle.figures.proofs.Written.{lawful_test}
use Rattle.figures.proofs.Filling.{agree_test, starts_at, window_by, Roomy, next_by}

-- starts for mash, ferment and crop, and for further steps
abbrev pub hours : ℕ → ℕ → ℕ → List (Option ℤ) → List (Option ℤ)
hours a b c rest = Some (pos a) ∷ Some (pos b) ∷ Some (pos c) ∷ rest

-- the steps placed so far
abbrev pub none_yet : List (Option Placed)
none_yet = replicate 31 None

abbrev pub mashed : List (Option Placed)
mashed = replaced none_yet 1 (Some (placed_at 0 6 0))

abbrev pub fermented : List (Option Placed)
fermented = replaced mashed 2 (Some (placed_at 6 20 1))

abbrev pub cropped : List (Option Placed)
cropped = replaced fermented 3 (Some (placed_at 26 4 2))

-- What the rules ask of the three starts.
pub record Limits (x y z : ℤ) : Type 0 where
  pub from_zero : pos 0 ≤ℤ x
  pub mash_first : (x +ℤ pos 6) ≤ℤ y
  pub then_crop : (y +ℤ pos 20) ≤ℤ z
  pub again : (z +ℤ pos 6) ≤ℤ (y +ℤ pos 48)
  pub in_span : (z +ℤ pos 4) ≤ℤ pos 60

-- A sheet with the three steps and further ones, which can start at certain hours, and whose windows are wide.
pub record Course (s : RuleSheet) (rest : List (Option ℤ)) : Type 0 where
  pub limits : (t : Timetable) → Lawful s t → Limits (start t 1) (start t 2) (start t 3)
  pub mash : step_at s 1 ≡ Some (6, 0)
  pub ferment : step_at s 2 ≡ Some (20, 1)
  pub crop : step_at s 3 ≡ Some (4, 2)
  pub early : lawful_test s (hours 0 6 26 rest) ≡ true
  pub late : lawful_test s (hours 30 36 56 rest) ≡ true
  pub long : lawful_test s (hours 0 36 56 rest) ≡ true
  pub aged : lawful_test s (hours 0 6 48 rest) ≡ true
  pub wide : (placed : List (Option Placed)) → ((any : List (Option ℤ)) → agree_test placed (hours 0 6 26 any) ≡ true)
      → (m : ℕ) → HasStep s (suc (suc (suc (suc m)))) → Roomy s (starts placed) (suc (suc (suc (suc m)))) (pos 30)

module _ (s : RuleSheet) (rest : List (Option ℤ)) (course : Course s rest) where
  mash_window : IsWindow s (starts none_yet) 1 (pos 0) (pos 30)
  mash_window =
      window_by s none_yet 1 (pos 0) (pos 30)
      (record { table = hours 0 6 26 rest; lawful = course.early; agrees = refl; has = refl })
      (record { table = hours 30 36 56 rest; lawful = course.late; agrees = refl; has = refl })
      (λ t k agrees.
      let l = course.limits t k in
      (l.from_zero, omega (arith, ints, l.mash_first, l.then_crop, l.in_span)))

  -- the ferment's window before and after the mash is placed
  ferment_first : IsWindow s (starts none_yet) 2 (pos 6) (pos 36)
  ferment_first =
      window_by s none_yet 2 (pos 6) (pos 36)
      (record { table = hours 0 6 26 rest; lawful = course.early; agrees = refl; has = refl })
      (record { table = hours 30 36 56 rest; lawful = course.late; agrees = refl; has = refl })
      (λ t k agrees.
      let l = course.limits t k in
      (omega (arith, ints, l.from_zero, l.mash_first), omega (arith, ints, l.then_crop, l.in_span)))

  ferment_window : IsWindow s (starts mashed) 2 (pos 6) (pos 36)
  ferment_window =
      window_by s mashed 2 (pos 6) (pos 36)
      (record { table = hours 0 6 26 rest; lawful = course.early; agrees = refl; has = refl })
      (record { table = hours 0 36 56 rest; lawful = course.long; agrees = refl; has = refl })
      (λ t k agrees.
      let l = course.limits t k in
      (omega (arith, ints, l.from_zero, l.mash_first), omega (arith, ints, l.then_crop, l.in_span)))

  -- the crop's window, which narrows only once the ferment is placed
  crop_first : IsWindow s (starts none_yet) 3 (pos 26) (pos 56)
  crop_first =
      window_by s none_yet 3 (pos 26) (pos 56)
      (record { table = hours 0 6 26 rest; lawful = course.early; agrees = refl; has = refl })
      (record { table = hours 30 36 56 rest; lawful = course.late; agrees = refl; has = refl })
      (λ t k agrees.
      let l = course.limits t k in
      (omega (arith, ints, l.from_zero, l.mash_first, l.then_crop), omega (arith, ints, l.in_span)))

  crop_second : IsWindow s (starts mashed) 3 (pos 26) (pos 56)
  crop_second =
      window_by s mashed 3 (pos 26) (pos 56)
      (record { table = hours 0 6 26 rest; lawful = course.early; agrees = refl; has = refl })
      (record { table = hours 0 36 56 rest; lawful = course.long; agrees = refl; has = refl })
      (λ t k agrees.
      let l = course.limits t k in
      (omega (arith, ints, l.from_zero, l.mash_first, l.then_crop), omega (arith, ints, l.in_span)))

  crop_window : IsWindow s (starts fermented) 3 (pos 26) (pos 48)
  crop_window =
      window_by s fermented 3 (pos 26) (pos 48)
      (record { table = hours 0 6 26 rest; lawful = course.early; agrees = refl; has = refl })
      (record { table = hours 0 6 48 rest; lawful = course.aged; agrees = refl; has = refl })
      (λ t k agrees.
      let l = course.limits t k in
      let six = starts_at t 1 (pos 6) (agrees 2 (pos 6) refl) in
      (omega (arith, ints, l.then_crop, six), omega (arith, ints, l.again, six)))

  after_mash : (m : ℕ) → Waiting s (starts none_yet) m → (m ≡ 1) ⊎ ((1 < m) × Roomy s (starts none_yet) m (pos 30))
  after_mash zero w = absurd (false≢true w.there)
  after_mash (suc zero) w = inl refl
  after_mash (suc (suc zero)) w =
      inr (omega arith, record { first = pos 6; last = pos 36; window = ferment_first; wide = le_z_yes tt })
  after_mash (suc (suc (suc zero))) w =
      inr (omega arith, record { first = pos 26; last = pos 56; window = crop_first; wide = le_z_yes tt })
  after_mash (suc (suc (suc (suc m)))) w = inr (omega arith, course.wide none_yet (λ any. refl) m w.there)

  after_ferment : (m : ℕ) → Waiting s (starts mashed) m → (m ≡ 2) ⊎ ((2 < m) × Roomy s (starts mashed) m (pos 30))
  after_ferment zero w = absurd (false≢true w.there)
  after_ferment (suc zero) w = absurd (true≢false w.not_placed)
  after_ferment (suc (suc zero)) w = inl refl
  after_ferment (suc (suc (suc zero))) w =
      inr (omega arith, record { first = pos 26; last = pos 56; window = crop_second; wide = le_z_yes tt })
  after_ferment (suc (suc (suc (suc m)))) w = inr (omega arith, course.wide mashed (λ any. refl) m w.there)

  after_crop : (m : ℕ) → Waiting s (starts fermented) m → (m ≡ 3) ⊎ ((3 < m) × Roomy s (starts fermented) m (pos 22))
  after_crop zero w = absurd (false≢true w.there)
  after_crop (suc zero) w = absurd (true≢false w.not_placed)
  after_crop (suc (suc zero)) w = absurd (true≢false w.not_placed)
  after_crop (suc (suc (suc zero))) w = inl refl
  after_crop (suc (suc (suc (suc m)))) w =
      let roomy = course.wide fermented (λ any. refl) m w.there in
      let wide = roomy.wide in
      inr
      (omega arith, record { first = roomy.first; last = roomy.last; window = roomy.window; wide = omega (arith, ints) })

  mash_next : IsNext s (starts none_yet) 1
  mash_next =
      next_by s (starts none_yet) 1 (pos 0) (pos 30) (record { there = ap is_some course.mash; not_placed = refl })
      mash_window after_mash

  ferment_next : IsNext s (starts mashed) 2
  ferment_next =
      next_by s (starts mashed) 2 (pos 6) (pos 36) (record { there = ap is_some course.ferment; not_placed = refl })
      ferment_window after_ferment

  crop_next : IsNext s (starts fermented) 3
  crop_next =
      next_by s (starts fermented) 3 (pos 26) (pos 48) (record { there = ap is_some course.crop; not_placed = refl })
      crop_window after_crop

  -- a rule that names the first hour for each of the three steps places them at these hours
  pub three_placed : (rule : HourRule) → rule.hour (view_of s none_yet 1 6 0 0 30) ≡ 0
      → rule.hour (view_of s mashed 2 20 1 6 36) ≡ 6 → rule.hour (view_of s fermented 3 4 2 26 48) ≡ 26
      → Reached s rule cropped
  three_placed rule one two three =
      subst (λ (hour : ℕ). Reached s rule (replaced fermented 3 (Some (placed_at hour 4 2)))) three
      (further fermented 3 4 2 26 48
      (subst (λ (hour : ℕ). Reached s rule (replaced mashed 2 (Some (placed_at hour 20 1)))) two
      (further mashed 2 20 1 6 36
      (subst (λ (hour : ℕ). Reached s rule (replaced none_yet 1 (Some (placed_at hour 6 0)))) one
      (further none_yet 1 6 0 0 30 nothing mash_next course.mash mash_window))
      ferment_next course.ferment ferment_window))
      crop_next course.crop crop_window)
