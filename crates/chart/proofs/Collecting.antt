-- Collecting the places of a sheet. Assumes nothing.
use Rattle.std.proofs.Common.{◌≡◌, ℕ, zero, suc, ◌+◌, ◌<◌, ◌≤◌, false, set, sym, refl, ap, ◌∙◌, subst, ⊎_elim, arith}
use Rattle.std.proofs.lemmas.List.{get_or-set_same, get_or-set_other, length-set}
use Rattle.std.proofs.lemmas.Bool.{cases_lt, true≢false}
use Rattle.sheet.specs.Sheets.{RuleSheet, Present, present, has_step}
use Rattle.chart.specs.declared.places.Places.{Places}
use Rattle.chart.specs.Positions.{place, position, PlacesTo}

-- a place other than 0 is there if the step is
pub step_there : (s : RuleSheet) (v : ℕ) → 0 < v → present s v ≡ has_step s v
step_there s zero h = absurd (omega arith)
step_there s (suc v) h = refl

module _ (s : RuleSheet) (v : ℕ) (p : Places) (done : PlacesTo s v p) where
  pub places_skip : present s v ≡ false → PlacesTo s (v + 1) p
  places_skip absent =
      record {
        size = done.size;
        sizes = done.sizes;
        some = done.some;
        few = let h = done.few in omega arith;
        first = done.first;
        there = done.there;
        below = λ a h. let l = done.below a h in omega arith;
        rising = done.rising;
        found = λ w h here. done.found w (earlier w h here) here;
        place_of = λ w h here. done.place_of w (earlier w h here) here;
        position_of = done.position_of;
      }
    where
      earlier : (w : ℕ) → w < v + 1 → Present s w → w < v
      earlier w h here =
          ⊎_elim (λ (lt : w < v). lt)
          (λ (ge : v ≤ w).
          let e : v ≡ w = omega arith in
          absurd (true≢false (sym here ∙ sym (ap (present s) e) ∙ absent)))
          (cases_lt w v)

  abbrev added : Places
  added = record { count = p.count + 1; list = set p.list p.count v; positions = set p.positions v p.count }

  module _ (low : v < 32) (here : Present s v) where
    old_place : (a : ℕ) → a < p.count → place added a ≡ place p a
    old_place a h = get_or-set_other p.list p.count a v 0 (λ e. omega arith)

    new_place : place added p.count ≡ v
    new_place = let f = done.few in let z = done.size in get_or-set_same p.list p.count v 0 (omega arith)

    old_position : (w : ℕ) → w < v → position added w ≡ position p w
    old_position w h = get_or-set_other p.positions v w p.count 0 (λ e. omega arith)

    new_position : position added v ≡ p.count
    new_position = let z = done.sizes in get_or-set_same p.positions v p.count 0 (omega arith)

    there : (a : ℕ) → a < p.count + 1 → Present s (place added a)
    there a h =
        ⊎_elim (λ (lt : a < p.count). subst (Present s) (sym (old_place a lt)) (done.there a lt))
        (λ (ge : p.count ≤ a).
        let e : p.count ≡ a = omega arith in
        subst (Present s) (sym new_place ∙ ap (place added) e) here)
        (cases_lt a p.count)

    below : (a : ℕ) → a < p.count + 1 → place added a < v + 1
    below a h =
        ⊎_elim (λ (lt : a < p.count). let e = old_place a lt in let l = done.below a lt in omega arith)
        (λ (ge : p.count ≤ a).
        let e : p.count ≡ a = omega arith in
        let f = ap (place added) e in
        let n = new_place in
        omega arith)
        (cases_lt a p.count)

    rising : (a b : ℕ) → a < b → b < p.count + 1 → place added a < place added b
    rising a b h k =
        let e = old_place a (omega arith) in
        ⊎_elim (λ (lt : b < p.count). let f = old_place b lt in let l = done.rising a b h lt in omega arith)
        (λ (ge : p.count ≤ b).
        let f : p.count ≡ b = omega arith in
        let g = ap (place added) f in
        let n = new_place in
        let l = done.below a (omega arith) in
        omega arith)
        (cases_lt b p.count)

    found : (w : ℕ) → w < v + 1 → Present s w → position added w < p.count + 1
    found w h is =
        ⊎_elim (λ (lt : w < v). let e = old_position w lt in let l = done.found w lt is in omega arith)
        (λ (ge : v ≤ w).
        let f : v ≡ w = omega arith in
        let e = ap (position added) f in
        let n = new_position in
        omega arith)
        (cases_lt w v)

    place_of : (w : ℕ) → w < v + 1 → Present s w → place added (position added w) ≡ w
    place_of w h is =
        ⊎_elim
        (λ (lt : w < v).
        ap (place added) (old_position w lt) ∙ old_place (position p w) (done.found w lt is) ∙ done.place_of w lt is)
        (λ (ge : v ≤ w).
        let f : v ≡ w = omega arith in
        subst (λ (x : ℕ). place added (position added x) ≡ x) f (ap (place added) new_position ∙ new_place))
        (cases_lt w v)

    position_of : (a : ℕ) → a < p.count + 1 → position added (place added a) ≡ a
    position_of a h =
        ⊎_elim
        (λ (lt : a < p.count).
        ap (position added) (old_place a lt) ∙ old_position (place p a) (done.below a lt) ∙ done.position_of a lt)
        (λ (ge : p.count ≤ a).
        let e : p.count ≡ a = omega arith in
        subst (λ (x : ℕ). position added (place added x) ≡ x) e (ap (position added) new_place ∙ new_position))
        (cases_lt a p.count)

    pub places_more : PlacesTo s (v + 1) added
    places_more =
        record {
          size = length-set p.list p.count v ∙ done.size;
          sizes = length-set p.positions v p.count ∙ done.sizes;
          some = let h = done.some in omega arith;
          few = let h = done.few in omega arith;
          first = old_place 0 done.some ∙ done.first;
          there = there;
          below = below;
          rising = rising;
          found = found;
          place_of = place_of;
          position_of = position_of;
        }
