-- Filling the chart of a sheet. Assumes nothing.
use Rattle.std.proofs.Common.{◌≡◌, ℕ, ◌+◌, ◌*◌, ◌<◌, ◌≤◌, ◌⊎◌, List, length, set, Some, sym, refl, ap, ◌∙◌, subst, inl, inr, ⊎_elim, arith}
use Rattle.std.proofs.lemmas.Bool.{cases_lt, cases_eq}
use Rattle.sheet.specs.declared.forms.Link.{Link}
use Rattle.sheet.specs.Sheets.{RuleSheet, HasStep}
use Rattle.sheet.specs.Limits.{SoundSheet}
use Rattle.sheet.specs.Links.{IsLink, floor, ceiling}
use Rattle.walks.specs.Codes.{link_of}
use Rattle.walks.proofs.LinkLaws.{link_ends}
use Rattle.walks.proofs.Short.{present_below}
use Rattle.walks.proofs.CodeLaws.{link_read, codes_apart}
use Rattle.chart.specs.declared.places.Places.{Places}
use Rattle.chart.specs.Laws.{Laws}
use Rattle.chart.specs.Cells.{at, RaisedAt, ClosedTo}
use Rattle.chart.specs.Positions.{place, position, IsPlaces}
use Rattle.chart.specs.Runs.{MadeOf, Start, Edge, StartedTo, FilledTo}
use Rattle.chart.proofs.Reading.{written, unwritten}
use Rattle.chart.proofs.Collecting.{step_there}
use Rattle.chart.proofs.Joining.{made_link, made_join}
use Rattle.chart.proofs.Stages.{closed_none}

-- the step at a position other than the first
pub step_at_position : (s : RuleSheet) (p : Places) → IsPlaces s p → (a : ℕ) → 0 < a → a < p.count → HasStep s (place p a)
step_at_position s p is a h low =
    let r = is.rising 0 a h low in sym (step_there s (place p a) (omega arith)) ∙ is.there a low

module _ {E : Type 0} {neutral : E} {sum : E → E → E} {under : E → E → Type 0} {within : ℕ → E → Type 0}
    {value : ℕ → Link → E} (laws : Laws neutral sum under within value) (sound : SoundSheet) (p : Places)
    (is : IsPlaces sound.told p) where
  -- an entry that one link makes, between two positions
  link_edge : (a b : ℕ) (l : Link) (e : E) → IsLink sound.told l → l.from ≡ place p a → l.to ≡ place p b
      → (a ≡ b → ⊥) → e ≡ value sound.told.period l → Edge neutral sum value under within sound.told p a b e
  link_edge a b l e link from to apart is_value =
      let one = subst (within 1) (sym is_value) (laws.one sound l link) in
      record {
        start =
            record {
              made =
                  subst (MadeOf neutral sum value sound.told p 0 a b) (sym is_value)
                  (made_link laws sound.told p 0 a b l link from to);
              short = laws.more 1 2 e (omega arith) one;
              diagonal = λ same. absurd (apart same);
            };
        edge = λ h. one;
      }

  -- what code reads for the floor or the ceiling of a position
  pub floor_edge : (a b : ℕ) (e : E) → a ≡ 0 → (a ≡ b → ⊥) → b < p.count
      → ((l : Link) → link_of sound.told (200 + place p b) ≡ Some l → e ≡ value sound.told.period l)
      → Edge neutral sum value under within sound.told p a b e
  floor_edge a b e zero apart low read =
      let there = step_at_position sound.told p is b (omega arith) low in
      let link = floor (place p b) there in
      link_edge a b _ e link (sym is.first ∙ sym (ap (place p) zero)) refl apart
      (read _ (link_read sound.told sound.sound _ link))

  pub ceiling_edge : (a b : ℕ) (e : E) → b ≡ 0 → (a ≡ b → ⊥) → a < p.count
      → ((l : Link) → link_of sound.told (300 + place p a) ≡ Some l → e ≡ value sound.told.period l)
      → Edge neutral sum value under within sound.told p a b e
  ceiling_edge a b e zero apart low read =
      let there = step_at_position sound.told p is a (omega arith) low in
      let link = ceiling (place p a) there in
      link_edge a b _ e link refl (sym is.first ∙ sym (ap (place p) zero)) apart
      (read _ (link_read sound.told sound.sound _ link))

  -- the entries from and to place 0 that are read for another pair
  pub to_zero : (a b : ℕ) (xs : List E) → a < p.count → 0 < b → StartedTo neutral sum value under within sound.told p a b xs
      → Edge neutral sum value under within sound.told p a 0 (at neutral xs a 0)
  to_zero a b xs low h started = let n = is.some in started a 0 low n (inr (refl, h))

  pub from_zero : (a b : ℕ) (xs : List E) → b < p.count → 0 < a → StartedTo neutral sum value under within sound.told p a b xs
      → Edge neutral sum value under within sound.told p 0 b (at neutral xs 0 b)
  from_zero a b xs low h started = started 0 b is.some low (inl h)

  pub both_edge : (a b : ℕ) (xs : List E) (to on e : E) → a < p.count → b < p.count → (a ≡ b → ⊥) → (a ≡ 0 → ⊥) → (b ≡ 0 → ⊥)
      → StartedTo neutral sum value under within sound.told p a b xs → to ≡ at neutral xs a 0 → on ≡ at neutral xs 0 b
      → e ≡ sum to on → Edge neutral sum value under within sound.told p a b e
  both_edge a b xs to on e low_a low_b apart not_a not_b started to_is on_is e_is =
      let first = to_zero a b xs low_a (omega arith) started in
      let last = from_zero a b xs low_b (omega arith) started in
      let way : sum (at neutral xs a 0) (at neutral xs 0 b) ≡ e = cc in
      let here : position p (place p 0) ≡ 0 = is.position_of 0 is.some in
      record {
        start =
            record {
              made =
                  subst (MadeOf neutral sum value sound.told p 0 a b) way
                  (made_join laws sound.told p 0 a 0 b _ _ (omega arith) first.start.made last.start.made);
              short = subst (within 2) way (laws.joined 1 1 _ _ (first.edge (inr refl)) (last.edge (inl refl)));
              diagonal = λ same. absurd (apart same);
            };
        edge = λ h. absurd (⊎_elim not_a not_b h);
      }

  pub started_none : (xs : List E) → StartedTo neutral sum value under within sound.told p 0 0 xs
  started_none xs a b h l (inl lt) = absurd (omega arith)
  started_none xs a b h l (inr lt) = let k = lt.1 in absurd (omega arith)

  pub started_more : (r c : ℕ) (xs : List E) (e : E) → r < p.count → c < p.count → 1024 ≤ length xs
      → StartedTo neutral sum value under within sound.told p r c xs
      → Edge neutral sum value under within sound.told p r c e
      → StartedTo neutral sum value under within sound.told p r (c + 1) (set xs (32 * r + c) e)
  started_more r c xs e low_r low_c size started edge a b h l before =
      let few = is.few in
      ⊎_elim
      (λ (same : (a ≡ r) × (b ≡ c)).
      let now : at neutral (set xs (32 * r + c) e) r c ≡ e = written neutral xs r c e (omega arith) in
      subst (λ (v : ℕ). Edge neutral sum value under within sound.told p v b (at neutral (set xs (32 * r + c) e) v b)) (sym same.0)
      (subst (λ (v : ℕ). Edge neutral sum value under within sound.told p r v (at neutral (set xs (32 * r + c) e) r v)) (sym same.1)
      (subst (Edge neutral sum value under within sound.told p r c) (sym now) edge)))
      (λ (other : (a ≡ r → b ≡ c → ⊥)).
      let kept : at neutral (set xs (32 * r + c) e) a b ≡ at neutral xs a b
      = unwritten neutral xs r c a b e (omega arith) (omega arith) other in
      subst (Edge neutral sum value under within sound.told p a b) (sym kept)
      (started a b h l (earlier before other)))
      (which a b)
    where
      which : (a b : ℕ) → ((a ≡ r) × (b ≡ c)) ⊎ (a ≡ r → b ≡ c → ⊥)
      which a b =
          ⊎_elim (λ e. ⊎_elim (λ f. inl (e, f)) (λ f. inr (λ _ g. f g)) (cases_eq b c)) (λ f. inr (λ e _. f e)) (cases_eq a r)

      earlier : {a b : ℕ} → (a < r) ⊎ ((a ≡ r) × (b < c + 1)) → (a ≡ r → b ≡ c → ⊥) → (a < r) ⊎ ((a ≡ r) × (b < c))
      earlier (inl lt) other = inl lt
      earlier {a} {b} (inr at_row) other =
          let low = at_row.1 in
          inr (at_row.0, ⊎_elim (λ e. absurd (other at_row.0 e)) (λ (f : b ≡ c → ⊥). omega arith) (cases_eq b c))

  pub started_row : (r : ℕ) (xs : List E) → StartedTo neutral sum value under within sound.told p r p.count xs
      → StartedTo neutral sum value under within sound.told p (r + 1) 0 xs
  started_row r xs started a b h l (inr before) = let low = before.1 in absurd (omega arith)
  started_row r xs started a b h l (inl before) =
      started a b h l (⊎_elim (λ (lt : a < r). inl lt) (λ (ge : r ≤ a). inr (omega arith, l)) (cases_lt a r))

  pub filled_none : (xs : List E) → StartedTo neutral sum value under within sound.told p p.count 0 xs
      → FilledTo neutral sum value under within sound.told p 0 xs
  filled_none xs started =
      record { starts = λ a b h l. (started a b h l (inl h)).start; links = λ l link h. absurd (omega arith) }

  -- the positions of a link's ends
  pub ends_low : (l : Link) → IsLink sound.told l
      → (l.from < 32) × (l.to < 32) × (position p l.from < p.count) × (position p l.to < p.count)
  ends_low l link =
      let ends = link_ends sound.told sound.sound l link in
      let from = present_below sound.told sound.sound l.from ends.0 in
      let to = present_below sound.told sound.sound l.to ends.1 in
      (from, to, is.found l.from from ends.0, is.found l.to to ends.1)

  pub filled_skip : (code : ℕ) (xs : List E) → ((l : Link) → IsLink sound.told l → l.code ≡ code → ⊥)
      → FilledTo neutral sum value under within sound.told p code xs → FilledTo neutral sum value under within sound.told p (code + 1) xs
  filled_skip code xs none filled =
      record {
        starts = filled.starts;
        links =
            λ l link h. ⊎_elim (λ (lt : l.code < code). filled.links l link lt)
            (λ (ge : code ≤ l.code). absurd (none l link (omega arith))) (cases_lt l.code code);
      }

  pub filled_more : (code : ℕ) (l : Link) (e : E) (xs ys : List E) → IsLink sound.told l → l.code ≡ code
      → e ≡ value sound.told.period l → RaisedAt neutral under (position p l.from) (position p l.to) e xs ys
      → FilledTo neutral sum value under within sound.told p code xs → FilledTo neutral sum value under within sound.told p (code + 1) ys
  filled_more code l e xs ys link has e_is raised filled =
      record { starts = starts; links = links }
    where
      one : (a b : ℕ) → b < p.count
          → ((a ≡ position p l.from) × (b ≡ position p l.to)) ⊎ (at neutral ys a b ≡ at neutral xs a b)
      one a b h =
          let few = is.few in
          ⊎_elim
          (λ f. ⊎_elim (λ g. inl (f, g)) (λ (g : b ≡ position p l.to → ⊥). inr (raised.rest a b (omega arith) (λ _ x. g x)))
          (cases_eq b (position p l.to)))
          (λ (f : a ≡ position p l.from → ⊥). inr (raised.rest a b (omega arith) (λ x _. f x)))
          (cases_eq a (position p l.from))

      rises : (a b : ℕ) → b < p.count → under (at neutral xs a b) (at neutral ys a b)
      rises a b h =
          ⊎_elim
          (λ (same : (a ≡ position p l.from) × (b ≡ position p l.to)).
          subst (λ (v : ℕ). under (at neutral xs v b) (at neutral ys v b)) (sym same.0)
          (subst (λ (v : ℕ). under (at neutral xs (position p l.from) v) (at neutral ys (position p l.from) v)) (sym same.1)
          raised.here.keeps))
          (λ (same : at neutral ys a b ≡ at neutral xs a b). subst (under (at neutral xs a b)) (sym same) (laws.reflexive _))
          (one a b h)

      here : Start neutral sum value under within sound.told p (position p l.from) (position p l.to)
          (at neutral ys (position p l.from) (position p l.to))
      here =
          let low = ends_low l link in
          let ends = link_ends sound.told sound.sound l link in
          let old = filled.starts (position p l.from) (position p l.to) low.2 low.3 in
          ⊎_elim
          (λ same. subst (Start neutral sum value under within sound.told p (position p l.from) (position p l.to)) (sym same) old)
          (λ same.
          let is_value = same ∙ e_is in
          record {
            made =
                subst (MadeOf neutral sum value sound.told p 0 (position p l.from) (position p l.to)) (sym is_value)
                (made_link laws sound.told p 0 _ _ l link (sym (is.place_of l.from low.0 ends.0))
                (sym (is.place_of l.to low.1 ends.1)));
            short = subst (within 2) (sym is_value) (laws.more 1 2 _ (omega arith) (laws.one sound l link));
            diagonal = λ d. laws.transitive _ _ _ (old.diagonal d) raised.here.keeps;
          })
          raised.here.one

      starts : (a b : ℕ) → a < p.count → b < p.count → Start neutral sum value under within sound.told p a b (at neutral ys a b)
      starts a b h k =
          ⊎_elim
          (λ (same : (a ≡ position p l.from) × (b ≡ position p l.to)).
          subst (λ (v : ℕ). Start neutral sum value under within sound.told p v b (at neutral ys v b)) (sym same.0)
          (subst (λ (v : ℕ). Start neutral sum value under within sound.told p (position p l.from) v (at neutral ys (position p l.from) v))
          (sym same.1) here))
          (λ (same : at neutral ys a b ≡ at neutral xs a b).
          subst (Start neutral sum value under within sound.told p a b) (sym same) (filled.starts a b h k))
          (one a b k)

      links : (m : Link) → IsLink sound.told m → m.code < code + 1
          → under (value sound.told.period m) (at neutral ys (position p m.from) (position p m.to))
      links m is_link h =
          ⊎_elim
          (λ (lt : m.code < code).
          laws.transitive _ _ _ (filled.links m is_link lt) (rises _ _ (ends_low m is_link).3))
          (λ (ge : code ≤ m.code).
          let same : l ≡ m = codes_apart sound.told sound.sound l m link is_link (omega arith) in
          let top = subst (λ (x : E). under x (at neutral ys (position p l.from) (position p l.to))) e_is raised.here.meets in
          subst
          (λ (x : Link). under (value sound.told.period x) (at neutral ys (position p x.from) (position p x.to))) same top)
          (cases_lt m.code code)

  pub filled_closed : (xs : List E) → FilledTo neutral sum value under within sound.told p 432 xs
      → ClosedTo neutral sum under within p.count 0 xs xs
  filled_closed xs filled =
      closed_none laws p.count xs (λ a b h l. (filled.starts a b h l).short) (λ a h. (filled.starts a a h h).diagonal refl)
