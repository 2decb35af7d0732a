-- Entries of a worked chart against runs of links: a run over processed places comes to no more than its entry, and some
-- first link accounts for an entry exactly. Assumes nothing.
use Rattle.std.proofs.Common.{◌≡◌, ℕ, ◌<◌, ◌≤◌, ◌⊎◌, List, [], ◌∷◌, sym, refl, ap, ◌∙◌, subst, inl, inr, ⊎_elim, arith}
use Rattle.std.proofs.lemmas.Bool.{cases_lt, false≢true}
use Rattle.sheet.specs.declared.forms.Link.{Link}
use Rattle.sheet.specs.Sheets.{RuleSheet, HasStep}
use Rattle.sheet.specs.Limits.{Sound, SoundSheet, RuleFits}
use Rattle.sheet.specs.Links.{IsLink, after, within, at, at_back, floor, ceiling, turn, Run}
use Rattle.walks.proofs.LinkLaws.{link_ends}
use Rattle.chart.specs.declared.places.Places.{Places}
use Rattle.chart.specs.Laws.{Laws}
use Rattle.chart.specs.Cells as cells
use Rattle.chart.specs.Positions.{place, position, IsPlaces}
use Rattle.chart.specs.Runs.{Through, Processed, worth, Worked}
use Rattle.chart.proofs.Joining.{through_more}
use Rattle.chart.proofs.Stages.{both}
use Rattle.chart.proofs.Filling.{ends_low}

-- no step has number 0, so that no link leads from place 0 to place 0
no_step_zero : (s : RuleSheet) (n : ℕ) → n ≡ 0 → HasStep s n → ⊥
no_step_zero s n e there = false≢true (subst (HasStep s) e there)

pub not_at_zero : (s : RuleSheet) → Sound s → (l : Link) → IsLink s l → l.from ≡ 0 → l.to ≡ 0 → ⊥
not_at_zero s ok l (after r u v gap carry e) from to =
    no_step_zero s u from (subst (RuleFits (HasStep s)) e (ok.rules r)).0
not_at_zero s ok l (within r u v most e) from to = no_step_zero s v from (subst (RuleFits (HasStep s)) e (ok.rules r)).1
not_at_zero s ok l (at r v hour e) from to = no_step_zero s v to (subst (RuleFits (HasStep s)) e (ok.rules r)).0
not_at_zero s ok l (at_back r v hour e) from to = no_step_zero s v from (subst (RuleFits (HasStep s)) e (ok.rules r)).0
not_at_zero s ok l (floor v there) from to = no_step_zero s v to there
not_at_zero s ok l (ceiling v there) from to = no_step_zero s v from there
not_at_zero s ok l (turn v there) from to = no_step_zero s v from there

module _ {E : Type 0} (neutral : E) (sum : E → E → E) (value : ℕ → Link → E) where
  -- The link l is the first of a way from position a to position b that comes to the entry exactly: it ends at b, or it
  -- leads to a processed position, from which the entry to b is the rest.
  pub record Account (s : RuleSheet) (p : Places) (k a b : ℕ) (xs : List E) (l : Link) : Type 0 where
    pub link : IsLink s l
    pub begins : l.from ≡ place p a
    pub goes : ((l.to ≡ place p b) × (value s.period l ≡ cells.at neutral xs a b))
        ⊎ ((position p l.to < k) × (sum (value s.period l) (cells.at neutral xs (position p l.to) b) ≡ cells.at neutral xs a b))

module _ {E : Type 0} {neutral : E} {sum : E → E → E} {under : E → E → Type 0} {within : ℕ → E → Type 0}
    {value : ℕ → Link → E} (laws : Laws neutral sum under within value) (sound : SoundSheet) (p : Places)
    (is : IsPlaces sound.told p) where
  -- two positions of one place are one
  pub same_position : (a b : ℕ) → a < p.count → b < p.count → place p a ≡ place p b → a ≡ b
  same_position a b low_a low_b e = sym (is.position_of a low_a) ∙ ap (position p) e ∙ is.position_of b low_b

  module _ (k : ℕ) (xs : List E) (chart : Worked neutral sum value under within sound.told p k xs) where
    -- a link's value is under the entry between its positions
    link_under : (a b : ℕ) (l : Link) → a < p.count → b < p.count → IsLink sound.told l → l.from ≡ place p a
        → l.to ≡ place p b → under (value sound.told.period l) (cells.at neutral xs a b)
    link_under a b l low_a low_b link from to =
        let first : position p l.from ≡ a = ap (position p) from ∙ is.position_of a low_a in
        let last : position p l.to ≡ b = ap (position p) to ∙ is.position_of b low_b in
        subst (λ (v : ℕ). under (value sound.told.period l) (cells.at neutral xs v b)) first
        (subst (λ (v : ℕ). under (value sound.told.period l) (cells.at neutral xs (position p l.from) v)) last
        (chart.links l link))

    pub run_under : (a b : ℕ) (ls : List Link) → a < p.count → b < p.count → Run sound.told (place p a) (place p b) ls
        → Through (λ v. position p v < k) ls → under (worth neutral sum value sound.told.period ls) (cells.at neutral xs a b)
    run_under a b [] low_a low_b run inner =
        subst (λ (v : ℕ). under neutral (cells.at neutral xs a v)) (same_position a b low_a low_b run) (chart.diagonal a low_a)
    run_under a b (l ∷ []) low_a low_b run inner =
        subst (λ (x : E). under x (cells.at neutral xs a b)) (sym (laws.right_neutral (value sound.told.period l)))
        (link_under a b l low_a low_b run.1 run.0 run.2)
    run_under a b (l ∷ m ∷ ls) low_a low_b run inner =
        let low = ends_low laws sound p is l run.1 in
        let there = (link_ends sound.told sound.sound l run.1).1 in
        let here : place p (position p l.to) ≡ l.to = is.place_of l.to low.1 there in
        let first = link_under a (position p l.to) l low_a low.3 run.1 run.0 (sym here) in
        let rest = run_under (position p l.to) b (m ∷ ls) low.3 low_b
        (subst (λ (v : ℕ). Run sound.told v (place p b) (m ∷ ls)) (sym here) run.2) inner.1 in
        laws.transitive _ _ _ (both laws _ _ _ _ first rest) (chart.triangle (position p l.to) a b inner.0 low_a low_b)

    -- once position 0 is processed, the inner places of every entry's run are at positions below k
    pub strictly : 0 < k → (ls : List Link) → Through (Processed p k) ls → Through (λ v. position p v < k) ls
    strictly h ls inner = through_more (Processed p k) (λ v. position p v < k) (λ v low. omega arith) ls inner

    by_run : (a b : ℕ) (ls : List Link) → 0 < k → a < p.count → b < p.count → Run sound.told (place p a) (place p b) ls
        → Through (λ v. position p v < k) ls → worth neutral sum value sound.told.period ls ≡ cells.at neutral xs a b
        → ((a ≡ b) × (cells.at neutral xs a b ≡ neutral)) ⊎ ((l : Link) × Account neutral sum value sound.told p k a b xs l)
    by_run a b [] h low_a low_b run inner comes = inl (same_position a b low_a low_b run, sym comes)
    by_run a b (l ∷ []) h low_a low_b run inner comes =
        inr (
          l,
          record {
            link = run.1;
            begins = run.0;
            goes = inl (run.2, sym (laws.right_neutral (value sound.told.period l)) ∙ comes);
          },
        )
    by_run a b (l ∷ m ∷ ls) h low_a low_b run inner comes =
        let low = ends_low laws sound p is l run.1 in
        let there = (link_ends sound.told sound.sound l run.1).1 in
        let here : place p (position p l.to) ≡ l.to = is.place_of l.to low.1 there in
        let first = link_under a (position p l.to) l low_a low.3 run.1 run.0 (sym here) in
        let rest = run_under (position p l.to) b (m ∷ ls) low.3 low_b
        (subst (λ (v : ℕ). Run sound.told v (place p b) (m ∷ ls)) (sym here) run.2) inner.1 in
        let no_more = laws.transitive _ _ _ (laws.before _ _ (cells.at neutral xs (position p l.to) b) first)
        (chart.triangle (position p l.to) a b inner.0 low_a low_b) in
        let no_less = subst (λ (x : E). under x (sum (value sound.told.period l) (cells.at neutral xs (position p l.to) b))) comes
        (laws.behind (value sound.told.period l) _ _ rest) in
        inr (
          l,
          record { link = run.1; begins = run.0; goes = inr (inner.0, laws.antisymmetric _ _ no_more no_less) },
        )

    -- an entry is that of a place to itself without a link, or some first link accounts for it
    pub accounted : (a b : ℕ) → 0 < k → a < p.count → b < p.count
        → ((a ≡ b) × (cells.at neutral xs a b ≡ neutral)) ⊎ ((l : Link) × Account neutral sum value sound.told p k a b xs l)
    accounted a b h low_a low_b =
        let made = chart.made a b low_a low_b in
        by_run a b made.run h low_a low_b made.joins (strictly h made.run made.inner) made.comes

    at_first : (ls : List Link) → k ≡ 0 → Run sound.told (place p 0) (place p 0) ls → Through (Processed p k) ls
        → worth neutral sum value sound.told.period ls ≡ neutral
    at_first [] e run inner = refl
    at_first (l ∷ []) e run inner =
        absurd (not_at_zero sound.told sound.sound l run.1 (run.0 ∙ is.first) (run.2 ∙ is.first))
    at_first (l ∷ m ∷ ls) e run inner =
        let low = ends_low laws sound p is l run.1 in
        let there = (link_ends sound.told sound.sound l run.1).1 in
        let small = inner.0 in
        let zero : position p l.to ≡ 0 = omega arith in
        let end : l.to ≡ 0 = sym (is.place_of l.to low.1 there) ∙ ap (place p) zero ∙ is.first in
        absurd (not_at_zero sound.told sound.sound l run.1 (run.0 ∙ is.first) end)

    -- place 0 never beats the neutral entry, so that a chart stops after it has been processed
    pub stops_later : k < p.count → (under (cells.at neutral xs k k) neutral → ⊥) → 0 < k
    stops_later low beats =
        ⊎_elim (λ (h : 0 < k). h)
        (λ (h : k ≤ 0).
        let e : k ≡ 0 = omega arith in
        let made = chart.made k k low low in
        let run = subst (λ (v : ℕ). Run sound.told (place p v) (place p v) made.run) e made.joins in
        let nothing = at_first made.run e run made.inner in
        absurd (beats (subst (λ (x : E). under x neutral) (sym nothing ∙ made.comes) (laws.reflexive neutral))))
        (cases_lt 0 k)
