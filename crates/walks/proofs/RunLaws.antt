-- Runs of links: what they ask of a timetable, and how they are cut and joined. Assumes nothing.
use Rattle.std.proofs.Common.{◌≡◌, ℕ, ◌*◌, List, [], ◌∷◌, ◌++◌, pos, ◌+ℤ◌, ◌-ℤ◌, ◌≤ℤ◌, sym, refl, ap, subst, add-mul, arith}
use Rattle.std.proofs.lemmas.Int.{ints}
use Rattle.sheet.specs.declared.forms.Link.{Link}
use Rattle.sheet.specs.Sheets.{RuleSheet}
use Rattle.sheet.specs.Timetables.{Timetable, start, Lawful}
use Rattle.sheet.specs.Links.{Satisfies, Run, run_weight, run_hours, run_carries}
use Rattle.sheet.specs.Waits.{delay}
use Rattle.walks.proofs.LinkLaws.{links_hold}

pub along : (s : RuleSheet) (t : Timetable) → Satisfies s t
    → (i j : ℕ) (ls : List Link) → Run s i j ls → run_weight s.period ls ≤ℤ delay t i j
along s t every i j [] run = let e = ap (start t) run in omega (arith, ints)
along s t every i j (l ∷ ls) run =
    let e = ap (start t) run.0 in
    let first = every l run.1 in
    let rest = along s t every l.to j ls run.2 in
    omega (arith, ints)

pub no_lawful : (s : RuleSheet) (i : ℕ) (ls : List Link) → Run s i i ls → pos 1 ≤ℤ run_weight s.period ls
    → (t : Timetable) → Lawful s t → ⊥
no_lawful s i ls run heavy t k = let h = along s t (links_hold s t k) i i ls run in omega (arith, ints)

module _ (s : RuleSheet) where
  pub run_join : (i k j : ℕ) (xs ys : List Link) → Run s i k xs → Run s k j ys → Run s i j (xs ++ ys)
  run_join i k j [] ys p q = subst (λ (x : ℕ). Run s x j ys) (sym p) q
  run_join i k j (l ∷ xs) ys p q = (p.0, p.1, run_join l.to k j xs ys p.2 q)

  -- the place in the middle, and the two parts
  pub run_cut : (i j : ℕ) (xs ys : List Link) → Run s i j (xs ++ ys) → (k : ℕ) × Run s i k xs × Run s k j ys
  run_cut i j [] ys p = (i, refl, p)
  run_cut i j (l ∷ xs) ys p = let rest = run_cut l.to j xs ys p.2 in (rest.0, (p.0, p.1, rest.1), rest.2)

pub weight_join : (period : ℕ) (xs ys : List Link)
    → run_weight period (xs ++ ys) ≡ run_weight period xs +ℤ run_weight period ys
weight_join period [] ys = omega (arith, ints)
weight_join period (l ∷ xs) ys = let h = weight_join period xs ys in omega (arith, ints)

-- a run's weight by its hours and carries
pub weight_by_parts : (period : ℕ) (ls : List Link)
    → run_weight period ls ≡ run_hours ls -ℤ pos (run_carries ls * period)
weight_by_parts period [] = omega (arith, ints)
weight_by_parts period (l ∷ ls) =
    let h = weight_by_parts period ls in
    let m = add-mul l.carries (run_carries ls) period in
    omega (arith, ints)
