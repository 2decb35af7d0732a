-- The walk along a loop, link by link. Assumes nothing.
use Rattle.std.proofs.Common.{◌≡◌, ℕ, ◌+◌, ◌<◌, ◌≤◌, ◌⊎◌, List, [], ◌∷◌, ◌++◌, length, drop, set, ◌+ℤ◌, sym, refl, ap, ◌∙◌, subst, inl, inr, ⊎_elim, append_assoc, arith}
use Rattle.std.proofs.ByRecursion.{All-push, All-weaker}
use Rattle.std.proofs.lemmas.List.{map_push, length-map, length_push, set_at, drop_more}
use Rattle.std.proofs.lemmas.Int.{ints}
use Rattle.std.proofs.lemmas.Bool.{cases_lt}
use Rattle.std.specs.List.{AllByRecursion}
use Rattle.chart.proofs.Filling.{ends_low}
use Rattle.chart.specs.Cells.{at}
use Rattle.chart.specs.Positions.{place, position}
use Rattle.chart.specs.declared.places.Places.{Places}
use Rattle.kinds.proofs.Next.{NextLink, no_links, stop_hours, stop_links}
use Rattle.kinds.specs.Together.{no_link, counted_sum, one_link, counted_laws}
use Rattle.kinds.specs.declared.together.Counted.{Counted}
use Rattle.sheet.specs.Limits.{SoundSheet}
use Rattle.sheet.specs.Links.{IsLink, Run, Distinct, weight, run_weight, places}
use Rattle.sheet.specs.Sheets.{RuleSheet}
use Rattle.sheet.specs.declared.forms.Link.{Link}
use Rattle.walks.proofs.LinkLaws.{link_ends}
use Rattle.walks.proofs.RunLaws.{run_join, weight_join}
use Rattle.walks.proofs.Short.{few_below, run_below, present_below}
use Rattle.loops.specs.Loops.{codes_of, LoopWritten}
use Rattle.loops.specs.Steps.{Stopped, WholeWay, PartWay, Accounts}

pub next_accounts : {s : RuleSheet} {p : Places} {k a : ℕ} {xs : List Counted} {l : Link} → NextLink s p k a k xs l → Accounts s.period p k a xs l
next_accounts {s} {p} {k} {a} {xs} {l} next = (next.begins, by_way next.goes)
  where
    by_way : ((l.to ≡ place p k) × (one_link s.period l ≡ at no_link xs a k))
        ⊎ ((position p l.to < k) × (counted_sum (one_link s.period l) (at no_link xs (position p l.to) k) ≡ at no_link xs a k) × ((at no_link xs (position p l.to) k).links + 1 ≡ (at no_link xs a k).links))
        → WholeWay s.period p k a xs l ⊎ PartWay s.period p k a xs l
    by_way (inl whole) = inl whole
    by_way (inr part) = inr (part.0, part.1)

distinct_push : (xs : List ℕ) (x : ℕ) → Distinct xs → AllByRecursion (λ y. y ≡ x → ⊥) xs → Distinct (xs ++ (x ∷ []))
distinct_push [] x once apart = (tt, tt)
distinct_push (y ∷ ys) x once apart = (All-push (λ z. y ≡ z → ⊥) ys x once.0 apart.0, distinct_push ys x once.1 apart.1)

-- one code more, written behind those before it
written_more : (before cs after : List ℕ) (c : ℕ) → after ≡ cs ++ drop (length cs) before → length cs < length before → set after (length cs) c ≡ (cs ++ (c ∷ [])) ++ drop (length cs + 1) before
written_more before cs after c is low =
    ap (λ l. set l (length cs) c) (is ∙ ap (λ l. cs ++ l) (drop_more before (length cs) 0 low))
    ∙ set_at cs _ (drop (length cs + 1) before) c (length cs) refl
    ∙ sym (append_assoc cs (c ∷ []) (drop (length cs + 1) before))

-- how many links the entry from a position to the stop has
abbrev pub left : ℕ → List Counted → ℕ → ℕ
left k xs a = (at no_link xs a k).links

-- what was walked from the stop, position k, to a position
pub record Walked (s : RuleSheet) (p : Places) (k : ℕ) (xs : List Counted) (before : List ℕ) (here count : ℕ) (codes : List ℕ) : Type 0 where
  pub links : List Link
  pub joins : Run s (place p k) (place p here) links
  -- the links and the entry that is left make up the stop's entry to itself
  pub adds : (run_weight s.period links +ℤ (at no_link xs here k).hours) ≡ (at no_link xs k k).hours
  pub once : Distinct (places links)
  -- from every place that was met more links were left
  pub more : AllByRecursion (λ v. left k xs here < left k xs (position p v)) (places links)
  pub counted : count ≡ length links
  pub written : codes ≡ codes_of links ++ drop count before
  pub low : here < p.count
  pub some : 0 < left k xs here

module _ (sheet : SoundSheet) {p : Places} {k : ℕ} {xs : List Counted} (stopped : Stopped sheet.told p k xs) where
  pub walked_none : (before : List ℕ) → Walked sheet.told p k xs before k 0 before
  walked_none before = record {
    links = [];
    joins = refl;
    adds = omega (arith, ints);
    once = tt;
    more = tt;
    counted = refl;
    written = refl;
    low = stopped.inside;
    some = stop_links sheet p stopped.places k xs stopped.chart stopped.inside stopped.beats;
  }

  module _ {before codes : List ℕ} {here count : ℕ} (walked : Walked sheet.told p k xs before here count codes) (l : Link) (link : IsLink sheet.told l) (account : Accounts sheet.told.period p k here xs l) where
    abbrev new : List Link
    new = walked.links ++ (l ∷ [])

    -- the link's place was not met before, since fewer links are left from it
    met_once : Distinct (places new)
    met_once =
        subst Distinct (sym (map_push (λ m. m.from) walked.links l))
        (distinct_push (places walked.links) l.from walked.once
        (All-weaker (λ v. left k xs here < left k xs (position p v)) (λ v. v ≡ l.from → ⊥)
        (λ v more same.
        let back : left k xs (position p v) ≡ left k xs here = ap (λ w. left k xs (position p w)) (same ∙ account.0) ∙ ap (left k xs) (stopped.places.position_of here walked.low) in
        omega arith)
        (places walked.links) walked.more))

    to_link : Run sheet.told (place p k) l.to new
    to_link = run_join sheet.told (place p k) (place p here) l.to walked.links (l ∷ []) walked.joins (account.0, link, refl)

    pub room : count < 32
    room =
        let few = few_below 32 (places new) (run_below sheet.told sheet.sound (place p k) l.to new to_link) met_once in
        let long = length-map new (λ m. m.from) in
        let push = length_push walked.links l in
        let is = walked.counted in
        omega arith

    written_new : count < length before → set codes count l.code ≡ codes_of new ++ drop (count + 1) before
    written_new low =
        let cs = codes_of walked.links in
        let long : count ≡ length cs = walked.counted ∙ sym (length-map walked.links (λ m. m.code)) in
        ap (λ n. set codes n l.code) long
        ∙ written_more before cs codes l.code (walked.written ∙ ap (λ n. cs ++ drop n before) long) (omega arith)
        ∙ (λ i. sym (map_push (λ m. m.code) walked.links l) i ++ drop (sym long i + 1) before)

    weight_new : run_weight sheet.told.period new ≡ run_weight sheet.told.period walked.links +ℤ weight sheet.told.period l
    weight_new = let join = weight_join sheet.told.period walked.links (l ∷ []) in omega (arith, ints)

    back_at : place p (position p l.to) ≡ l.to
    back_at =
        let there = (link_ends sheet.told sheet.sound l link).1 in
        stopped.places.place_of l.to (present_below sheet.told sheet.sound l.to there) there

    whole_stops : WholeWay sheet.told.period p k here xs l → position p l.to ≡ k
    whole_stops whole = ap (position p) whole.0 ∙ stopped.places.position_of k stopped.inside

    -- the walk goes on from a position other than the stop
    pub walked_more : (position p l.to ≡ k → ⊥) → count < length before → Walked sheet.told p k xs before (position p l.to) (count + 1) (set codes count l.code)
    walked_more apart low = ⊎_elim (λ whole. absurd (apart (whole_stops whole))) go account.1
      where
        go : PartWay sheet.told.period p k here xs l → Walked sheet.told p k xs before (position p l.to) (count + 1) (set codes count l.code)
        go part =
            let ends = ends_low counted_laws sheet p stopped.places l link in
            let hours = ap (λ x. x.hours) part.1 in
            let links = ap (λ x. x.links) part.1 in
            let adds = walked.adds in
            let more = weight_new in
            let is = walked.counted in
            let push = length_push walked.links l in
            let fewer : left k xs (position p l.to) < left k xs here = omega arith in
            let back : left k xs (position p l.from) ≡ left k xs here = ap (λ w. left k xs (position p w)) account.0 ∙ ap (left k xs) (stopped.places.position_of here walked.low) in
            record {
              links = new;
              joins = subst (λ v. Run sheet.told (place p k) v new) (sym back_at) to_link;
              adds = omega (arith, ints);
              once = met_once;
              more =
                  subst (AllByRecursion (λ v. left k xs (position p l.to) < left k xs (position p v))) (sym (map_push (λ m. m.from) walked.links l))
                  (All-push (λ v. left k xs (position p l.to) < left k xs (position p v)) (places walked.links) l.from
                  (All-weaker (λ v. left k xs here < left k xs (position p v)) (λ v. left k xs (position p l.to) < left k xs (position p v)) (λ v h. omega arith) (places walked.links) walked.more)
                  (omega arith));
              counted = omega arith;
              written = written_new low;
              low = ends.3;
              some =
                  ⊎_elim (λ (h : 0 < left k xs (position p l.to)). h)
                  (λ (h : left k xs (position p l.to) ≤ 0).
                  let none = no_links sheet p stopped.places k xs stopped.chart (position p l.to) k ends.3 stopped.inside (omega arith) in
                  absurd (apart none.0))
                  (cases_lt 0 (left k xs (position p l.to)));
            }

    -- each turn leaves fewer links
    pub walked_falls : (position p l.to ≡ k → ⊥) → left k xs (position p l.to) < left k xs here
    walked_falls apart =
        ⊎_elim (λ whole. absurd (apart (whole_stops whole)))
        (λ (part : PartWay sheet.told.period p k here xs l). let links = ap (λ x. x.links) part.1 in omega arith) account.1

    -- the walk is back at the stop
    pub walked_back : position p l.to ≡ k → count < length before → LoopWritten sheet.told before (set codes count l.code) (count + 1)
    walked_back home low =
        ⊎_elim done (λ (part : PartWay sheet.told.period p k here xs l). let h = part.0 in absurd (omega arith)) account.1
      where
        done : WholeWay sheet.told.period p k here xs l → LoopWritten sheet.told before (set codes count l.code) (count + 1)
        done whole =
            let hours = ap (λ x. x.hours) whole.1 in
            let adds = walked.adds in
            let more = weight_new in
            let heavy = stop_hours sheet p stopped.places k xs stopped.chart stopped.inside stopped.beats in
            let is = walked.counted in
            let push = length_push walked.links l in
            record {
              links = new;
              loop = record { base = place p k; closed = subst (λ v. Run sheet.told (place p k) v new) whole.0 to_link; some = omega arith; once = met_once };
              heavy = omega (arith, ints);
              counted = omega arith;
              written = written_new low;
            }
