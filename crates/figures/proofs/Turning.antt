-- At a period of 19 hours the turn of the ferment is the only loop that weighs more than 0: a timetable of the brew keeps
-- every other link. Assumes nothing.
use Rattle.std.proofs.Common.{◌≡◌, ℕ, zero, suc, ◌⊎◌, List, [], ◌∷◌, ◌++◌, replicate, ℤ, pos, ◌≤ℤ◌, Some, None, Option, sym, refl, ap, ◌∙◌, subst, inl, inr, arith}
use lib.Signed.{le_z_yes}
use Rattle.std.specs.List.{AllByRecursion}
use Rattle.std.proofs.lemmas.Int.{ints}
use Rattle.std.proofs.lemmas.Bool.{false≢true}
use Rattle.loops.specs.Loops.{codes_of}
use Rattle.sheet.specs.declared.forms.Link.{Link}
use Rattle.sheet.specs.Layers.{at_period}
use Rattle.sheet.specs.Links.{IsLink, after, within, at, at_back, floor, ceiling, turn, Keeps, Run, Loop, Distinct, places, run_weight}
use Rattle.sheet.specs.Sheets.{RuleSheet, rule_at}
use Rattle.sheet.specs.Timetables.{Timetable, start, Obeys, Lawful}
use Rattle.sheet.specs.Waits.{delay}
use Rattle.walks.proofs.RunLaws.{run_cut}
use Rattle.figures.specs.Example.{brew}
use Rattle.figures.proofs.Brewing.{no_fourth}
use Rattle.figures.proofs.Written.{written, written_lawful, each_obeys}

abbrev pub ferment_turn : Link
ferment_turn = record { from = 2; to = 2; hours = pos 20; carries = 1; code = 402 }

abbrev fast : RuleSheet
fast = at_period brew 19

abbrev early : List (Option ℤ)
early = Some (pos 0) ∷ Some (pos 6) ∷ Some (pos 26) ∷ replicate 28 None

abbrev t : Timetable
t = written early

by_day : Lawful brew t
by_day = written_lawful brew early refl

obeyed : (r : ℕ) → Obeys fast t (rule_at fast r)
obeyed zero = tt
obeyed (suc r) = each_obeys fast t fast.rules refl r

kept : (l : Link) → IsLink fast l → Keeps fast t l ⊎ (l ≡ ferment_turn)
kept l (after r u v gap carry e) = let h = subst (Obeys fast t) e (obeyed r) in inl (omega (arith, ints))
kept l (within r u v hours e) = let h = subst (Obeys fast t) e (obeyed r) in inl (omega (arith, ints))
kept l (at r v hour e) = let h = subst (Obeys fast t) e (obeyed r) in inl (omega (arith, ints))
kept l (at_back r v hour e) = let h = subst (Obeys fast t) e (obeyed r) in inl (omega (arith, ints))
kept l (floor v there) = let h = by_day.from_zero v there in inl (omega (arith, ints))
kept l (ceiling v there) = let h = by_day.in_span v there in inl (omega (arith, ints))
kept l (turn zero there) = absurd (false≢true there)
kept l (turn (suc zero) there) = inl (le_z_yes tt)
kept l (turn (suc (suc zero)) there) = inr refl
kept l (turn (suc (suc (suc zero))) there) = inl (le_z_yes tt)
kept l (turn (suc (suc (suc (suc n)))) there) = absurd (no_fourth n there)

-- A list of links that has the ferment's turn.
record Turned (ls : List Link) : Type 0 where
  front : List Link
  rest : List Link
  parts : ls ≡ front ++ (ferment_turn ∷ rest)

-- a run that lacks it is kept by the timetable
light : (i j : ℕ) (ls : List Link) → Run fast i j ls → (run_weight 19 ls ≤ℤ delay t i j) ⊎ Turned ls
light i j [] run = let e = ap (start t) run in inl (omega (arith, ints))
light i j (l ∷ ls) run = by (kept l run.1) (light l.to j ls run.2)
  where
    by : Keeps fast t l ⊎ (l ≡ ferment_turn) → (run_weight 19 ls ≤ℤ delay t l.to j) ⊎ Turned ls
        → (run_weight 19 (l ∷ ls) ≤ℤ delay t i j) ⊎ Turned (l ∷ ls)
    by (inr is) later = inr (record { front = []; rest = ls; parts = ap (λ x. x ∷ ls) is })
    by (inl here) (inr turned) =
        inr (record { front = l ∷ turned.front; rest = turned.rest; parts = ap (λ xs. l ∷ xs) turned.parts })
    by (inl here) (inl later) = let e = ap (start t) run.0 in inl (omega (arith, ints))

all_at : (P : ℕ → Type 0) (front : List Link) (m : Link) (rest : List Link) → AllByRecursion P (places (front ++ (m ∷ rest))) → P m.from
all_at P [] m rest every = every.0
all_at P (f ∷ front) m rest every = all_at P front m rest every.1

distinct_behind : (front ms : List Link) → Distinct (places (front ++ ms)) → Distinct (places ms)
distinct_behind [] ms once = once
distinct_behind (f ∷ front) ms once = distinct_behind front ms once.1

-- a closed run with the turn that meets no place twice is the turn alone
alone : (front rest : List Link) (base : ℕ) → Run fast base base (front ++ (ferment_turn ∷ rest))
    → Distinct (places (front ++ (ferment_turn ∷ rest))) → codes_of (front ++ (ferment_turn ∷ rest)) ≡ 402 ∷ []
alone [] [] base run once = refl
alone [] (l ∷ rest) base run once = absurd (once.0.0 (sym run.2.0))
alone (f ∷ front) [] base run once =
    let cut = run_cut fast f.to base front (ferment_turn ∷ []) run.2 in
    let back : 2 ≡ base = cut.2.2 in
    absurd (all_at (λ y. f.from ≡ y → ⊥) front ferment_turn [] once.0 (run.0 ∙ sym back))
alone (f ∷ front) (l ∷ rest) base run once =
    let cut = run_cut fast f.to base front (ferment_turn ∷ l ∷ rest) run.2 in
    let again : l.from ≡ 2 = cut.2.2.0 in
    absurd ((distinct_behind front (ferment_turn ∷ l ∷ rest) once.1).0.0 (sym again))

pub only_turn : (ls : List Link) → Loop fast ls → pos 1 ≤ℤ run_weight 19 ls → codes_of ls ≡ 402 ∷ []
only_turn ls loop heavy = by (light loop.base loop.base ls loop.closed)
  where
    by : (run_weight 19 ls ≤ℤ delay t loop.base loop.base) ⊎ Turned ls → codes_of ls ≡ 402 ∷ []
    by (inl low) = absurd (omega (arith, ints))
    by (inr turned) =
        ap codes_of turned.parts
        ∙ alone turned.front turned.rest loop.base
        (subst (Run fast loop.base loop.base) turned.parts loop.closed)
        (subst (λ (ms : List Link). Distinct (places ms)) turned.parts loop.once)
