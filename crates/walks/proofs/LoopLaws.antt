-- A closed run of positive weight contains a loop of positive weight: as long as a place comes twice, the run falls
-- into two shorter closed runs, of which one is heavy. Assumes nothing.
use Rattle.std.proofs.Common.{◌≡◌, ℕ, zero, suc, ◌<◌, ◌≤◌, ◌⊎◌, List, [], ◌∷◌, ◌++◌, length, pos, ◌+ℤ◌, ◌≤ℤ◌, sym, refl, ap, ◌∙◌, subst, inl, inr, ⊎_elim, arith, length-append}
use Rattle.std.specs.List.{ContainsAt, AllByRecursion}
use Rattle.std.proofs.ByRecursion.{All-append, all-has, all_has_itself, All-weaker, has_append_left, has_append_right}
use Rattle.std.proofs.lemmas.Int.{ints, by_lt_z}
use Rattle.std.proofs.lemmas.Bool.{cases_eq}
use Rattle.sheet.specs.declared.forms.Link.{Link}
use Rattle.sheet.specs.Sheets.{RuleSheet}
use Rattle.sheet.specs.Links.{Run, Distinct, places, run_weight}
use Rattle.walks.specs.Theorems.{HeavyLoop}
use Rattle.walks.proofs.RunLaws.{run_join, run_cut, weight_join}

-- A link of the list that begins at a place, with what comes before and after it.
record Begins (place : ℕ) (ls : List Link) : Type 0 where
  front : List Link
  link : Link
  rest : List Link
  parts : ls ≡ front ++ (link ∷ rest)
  here : place ≡ link.from

-- Two links of the list that begin at one place.
record Again (ls : List Link) : Type 0 where
  front : List Link
  first : Link
  between : List Link
  second : Link
  rest : List Link
  parts : ls ≡ front ++ ((first ∷ between) ++ (second ∷ rest))
  same : first.from ≡ second.from

find : (place : ℕ) (ls : List Link) → AllByRecursion (λ y. place ≡ y → ⊥) (places ls) ⊎ Begins place ls
find place [] = inl tt
find place (l ∷ ls) =
    ⊎_elim (λ e. inr (record { front = []; link = l; rest = ls; parts = refl; here = e }))
    (λ other.
    ⊎_elim (λ none. inl (other, none))
    (λ b.
    inr
    (record {
      front = l ∷ b.front;
      link = b.link;
      rest = b.rest;
      parts = ap (λ xs. l ∷ xs) b.parts;
      here = b.here;
    }))
    (find place ls))
    (cases_eq place l.from)

again : (ls : List Link) → Distinct (places ls) ⊎ Again ls
again [] = inl tt
again (l ∷ ls) =
    ⊎_elim
    (λ once.
    ⊎_elim (λ none. inl (none, once))
    (λ b.
    inr
    (record {
      front = [];
      first = l;
      between = b.front;
      second = b.link;
      rest = b.rest;
      parts = ap (λ xs. l ∷ xs) b.parts;
      same = b.here;
    }))
    (find l.from ls))
    (λ a.
    inr
    (record {
      front = l ∷ a.front;
      first = a.first;
      between = a.between;
      second = a.second;
      rest = a.rest;
      parts = ap (λ xs. l ∷ xs) a.parts;
      same = a.same;
    }))
    (again ls)

-- The two closed runs into which a closed run falls where a place comes twice.
record Parts (s : RuleSheet) (period : ℕ) (i : ℕ) (ls : List Link) : Type 0 where
  inner : List Link
  outer : List Link
  base : ℕ
  inner_closed : Run s base base inner
  outer_closed : Run s i i outer
  inner_within : AllByRecursion (ContainsAt ls) inner
  outer_within : AllByRecursion (ContainsAt ls) outer
  inner_shorter : length inner < length ls
  outer_shorter : length outer < length ls
  weights : run_weight period ls ≡ run_weight period inner +ℤ run_weight period outer

fall_apart : (s : RuleSheet) (period i : ℕ) (ls : List Link) → Run s i i ls → Again ls → Parts s period i ls
fall_apart s period i ls run a =
    let front = a.front in
    let middle = a.first ∷ a.between in
    let tail = a.second ∷ a.rest in
    let one = run_cut s i i front (middle ++ tail) (subst (Run s i i) a.parts run) in
    let two = run_cut s one.0 i middle tail one.2 in
    let meet : two.0 ≡ one.0 = sym two.2.0 ∙ sym a.same ∙ two.1.0 in
    let lengths = ap length a.parts ∙ length-append front (middle ++ tail) in
    let lengths_inner = length-append middle tail in
    let lengths_outer = length-append front tail in
    let weighs = ap (run_weight period) a.parts ∙ weight_join period front (middle ++ tail) in
    let weighs_inner = weight_join period middle tail in
    let weighs_outer = weight_join period front tail in
    let held : (xs : List Link) → ((x : Link) → ContainsAt xs x → ContainsAt (front ++ (middle ++ tail)) x) → AllByRecursion (ContainsAt ls) xs =
    λ xs into. All-weaker (ContainsAt xs) (ContainsAt ls) (λ x h. subst (λ (ys : List Link). ContainsAt ys x) (sym a.parts) (into x h)) xs (all_has_itself xs) in
    record {
      inner = middle;
      outer = front ++ tail;
      base = one.0;
      inner_closed = subst (λ (k : ℕ). Run s one.0 k middle) meet two.1;
      outer_closed = run_join s i one.0 i front tail one.1 (subst (λ (k : ℕ). Run s k i tail) meet two.2);
      inner_within = held middle (λ x h. has_append_right front (middle ++ tail) x (has_append_left middle tail x h));
      outer_within =
          All-append (ContainsAt ls) front tail (held front (has_append_left front (middle ++ tail)))
          (held tail (λ x h. has_append_right front (middle ++ tail) x (has_append_right middle tail x h)));
      inner_shorter = omega arith;
      outer_shorter = omega arith;
      weights = omega (arith, ints);
    }

-- the loop of a part is a loop of the whole
widen : {s : RuleSheet} {period : ℕ} {part : List Link} (ls : List Link)
    → AllByRecursion (ContainsAt ls) part → HeavyLoop s period part → HeavyLoop s period ls
widen {part = part} ls within h =
    record {
      links = h.links;
      loop = h.loop;
      heavy = h.heavy;
      within = All-weaker (ContainsAt part) (ContainsAt ls) (λ x. all-has (ContainsAt ls) part x within) h.links h.within;
    }

some_links : (period : ℕ) (ls : List Link) → pos 1 ≤ℤ run_weight period ls → 0 < length ls
some_links period [] heavy = absurd (omega (arith, ints))
some_links period (l ∷ ls) heavy = omega arith

-- by the number of links
shorten : (fuel : ℕ) (s : RuleSheet) (period i : ℕ) (ls : List Link) → length ls ≤ fuel
    → Run s i i ls → pos 1 ≤ℤ run_weight period ls → HeavyLoop s period ls
shorten zero s period i ls short run heavy = let some = some_links period ls heavy in absurd (omega arith)
shorten (suc fuel) s period i ls short run heavy =
    ⊎_elim
    (λ once.
    record {
      links = ls;
      loop = record { base = i; closed = run; some = some_links period ls heavy; once = once };
      heavy = heavy;
      within = all_has_itself ls;
    })
    (λ a.
    let p = fall_apart s period i ls run a in
    by_lt_z (pos 0) (run_weight period p.inner)
    (λ inner. widen ls p.inner_within (shorten fuel s period p.base p.inner (omega arith) p.inner_closed (omega (arith, ints))))
    (λ inner. widen ls p.outer_within (shorten fuel s period i p.outer (omega arith) p.outer_closed (omega (arith, ints)))))
    (again ls)

pub heavy_loop : (s : RuleSheet) (period i : ℕ) (ls : List Link)
    → Run s i i ls → pos 1 ≤ℤ run_weight period ls → HeavyLoop s period ls
heavy_loop s period i ls run heavy = shorten (length ls) s period i ls (omega arith) run heavy
