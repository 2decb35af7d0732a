-- From a closed matrix to lawful timetables and waits. Assumes nothing.
use Rattle.std.proofs.Common.{◌≡◌, ℕ, zero, suc, Bool, true, false, cond, ℤ, pos, ◌-ℤ◌, ◌≤ℤ◌, is_some, Some, None, unwrap_or, refl, ap, subst, arith}
use mathlib.Core.Logic.{∥∥₁_elim}
use Rattle.std.proofs.lemmas.Int.{ints}
use Rattle.sheet.specs.declared.forms.Link.{Link}
use Rattle.sheet.specs.Sheets.{RuleSheet, has_step, Present}
use Rattle.sheet.specs.Limits.{Sound}
use Rattle.sheet.specs.Timetables.{start, Lawful}
use Rattle.sheet.specs.Links.{IsLink, Keeps}
use Rattle.sheet.specs.Waits.{delay, IsWait}
use Rattle.walks.specs.Matrices.{Matrix, Closed, MadeOfRuns, row_timetable}
use Rattle.walks.proofs.Orders.{le_prop}
use Rattle.walks.proofs.LinkLaws.{links_hold, lawful_from_links, link_ends}
use Rattle.walks.proofs.RunLaws.{along}

some_if : (b : Bool) (x : ℤ) → is_some (cond b (Some x) None) ≡ b
some_if true x = refl
some_if false x = refl

module _ (s : RuleSheet) (ok : Sound s) (d : Matrix) (closed : Closed s d) where
  pub row_start : (i n : ℕ) → Present s n → start (row_timetable s d i) n ≡ d i n -ℤ d i 0
  row_start i zero there = omega (arith, ints)
  row_start i (suc n) there = ap (λ b. unwrap_or (cond b (Some (d i (suc n) -ℤ d i 0)) None) (pos 0)) there

  row_keeps : (i : ℕ) → Present s i → (l : Link) → IsLink s l → Keeps s (row_timetable s d i) l
  row_keeps i here l link =
      let ends = link_ends s ok l link in
      let low = closed.above_links l link in
      let way = closed.triangle i l.from l.to here ends.0 ends.1 in
      let first = row_start i l.from ends.0 in
      let last = row_start i l.to ends.1 in
      omega (arith, ints)

  pub row_lawful : (i : ℕ) → Present s i → Lawful s (row_timetable s d i)
  row_lawful i here = lawful_from_links s (row_timetable s d i) (λ n. some_if (has_step s n) _) (row_keeps i here)

  pub row_attains : (i j : ℕ) → Present s i → Present s j → delay (row_timetable s d i) i j ≡ d i j
  row_attains i j here there =
      let diagonal = closed.zero_diagonal i here in
      let first = row_start i i here in
      let last = row_start i j there in
      omega (arith, ints)

  pub entries_are_waits : MadeOfRuns s d → (i j : ℕ) → Present s i → Present s j → IsWait s i j (d i j)
  entries_are_waits made i j here there =
      record {
        attained = ∣ (row_timetable s d i, row_lawful i here, row_attains i j here there) ∣₁;
        least =
            λ t k. ∥∥₁_elim (made i j here there) (le_prop _ _)
            (λ run. subst (λ (w : ℤ). w ≤ℤ delay t i j) run.2 (along s t (links_hold s t k) i j run.0 run.1));
      }
