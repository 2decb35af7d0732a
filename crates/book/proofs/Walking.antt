-- A walk through a book ends, goes one way, and loses no byte. Assumes nothing.
use Rattle.std.proofs.Common.{◌≡◌, ℕ, zero, suc, ◌+◌, ◌-◌, ◌<◌, ◌≤◌, Bool, true, false, cond, List, [], ◌∷◌, length, drop, Some, None, Ok, Err, Result, sym, refl, subst, ⊎_elim, arith, le-ltb, lt-ltb, leb-true}
use Rattle.std.proofs.lemmas.List.{length-drop}
use Rattle.std.proofs.lemmas.Bool.{cases_lt, cond_both}
use Rattle.book.specs.Commands.{Instruction, add_step, remove_step, set_duration, put_after, put_within, put_at, remove_rule, set_period, set_span, set_vessels, width, whole, decoded}
use Rattle.book.specs.Reading.{Item, item_of, placed, behind, next, onward, book_of, place_of, Stepped}
use Rattle.book.specs.Walks.{Walk, ends, tells, followed_by, items_from, items, read, dropped, Walkable}
use Rattle.book.specs.declared.faults.Cause.{Cause}
use Rattle.book.specs.declared.faults.Fault.{Fault}
use Rattle.book.specs.declared.reading.Entry.{Entry}
use Rattle.book.specs.declared.reading.Reader.{Reader}

width_some : (i : Instruction) → 0 < width i
width_some (add_step step duration kind name) = omega arith
width_some (remove_step step) = omega arith
width_some (set_duration step duration) = omega arith
width_some (put_after rule u v gap carry) = omega arith
width_some (put_within rule u v hours) = omega arith
width_some (put_at rule v hour) = omega arith
width_some (remove_rule rule) = omega arith
width_some (set_period period) = omega arith
width_some (set_span span) = omega arith
width_some (set_vessels kind count) = omega arith

-- what was decoded takes at most n bytes
record Within (n : ℕ) (d : Result Instruction Cause) : Type 0 where
  pub fits : (i : Instruction) → d ≡ Ok i → width i ≤ n

fault_within : {n : ℕ} {cause : Cause} → Within n (Err cause)
fault_within = record { fits = λ i e. let no : ◌≡◌ {A = ℕ} 0 1 = cc in absurd (omega arith) }

either_within : {n : ℕ} (b : Bool) {x y : Result Instruction Cause} → Within n x → Within n y → Within n (cond b x y)
either_within true h k = h
either_within false h k = k

whole_within : (bs : List ℕ) (i : Instruction) → Within (length bs) (whole bs i)
whole_within bs i = cond_both _ _ _ (Within (length bs)) (λ short. record { fits = λ j e. let same : i ≡ j = cc in subst (λ k. width k ≤ length bs) same (leb-true _ _ short) }) (λ _. fault_within)

decoded_within : (bs : List ℕ) → Within (length bs) (decoded bs)
decoded_within bs = search (fault_within, whole_within, either_within) depth 16

behind_bounds : (place end : ℕ) (d : Result Instruction Cause) → place < end → Within (end - place) d → (place < behind place end d) × (behind place end d ≤ end)
behind_bounds place end (Ok i) inside within = (omega (arith, width_some i), omega (arith, within.fits i refl))
behind_bounds place end (Err cause) inside within = (inside, omega arith)

module _ (book : List ℕ) where
  -- before the end there is an item, and reading goes on behind it
  pub next_inside : (place : ℕ) → place < length book → next book place ≡ Some (placed place (decoded (drop place book)))
  next_inside place inside = rw (lt-ltb place (length book) inside)

  pub onward_inside : (place : ℕ) → place < length book → onward book place ≡ behind place (length book) (decoded (drop place book))
  onward_inside place inside = rw (lt-ltb place (length book) inside)

  pub next_past : (place : ℕ) → length book ≤ place → next book place ≡ None
  next_past place past = rw (le-ltb place (length book) past)

  pub onward_bounds : (place : ℕ) → place < length book → (place < onward book place) × (onward book place ≤ length book)
  onward_bounds place inside =
      subst (λ n. (place < n) × (n ≤ length book)) (sym (onward_inside place inside))
      (behind_bounds place (length book) _ inside (subst (λ n. Within n (decoded (drop place book))) (length-drop place book) (decoded_within (drop place book))))

  past_from_none : (place : ℕ) → next book place ≡ None → length book ≤ place
  past_from_none place none =
      ⊎_elim (λ inside. let some = next_inside place inside in let no : ◌≡◌ {A = ℕ} 0 1 = cc in omega arith) (λ past. past) (cases_lt place (length book))

  inside_from_some : (place : ℕ) (item : Item) → next book place ≡ Some item → place < length book
  inside_from_some place item some =
      ⊎_elim (λ inside. inside) (λ past. let none = next_past place past in let no : ◌≡◌ {A = ℕ} 0 1 = cc in omega arith) (cases_lt place (length book))

  -- with each item less of the book is left
  next_falls : (place : ℕ) (item : Item) → next book place ≡ Some item → length book - onward book place < length book - place
  next_falls place item some =
      let inside = inside_from_some place item some in
      omega (arith, onward_bounds place inside)

  walks : (fuel place : ℕ) → length book ≤ place + fuel → Walk book place (items_from fuel book place)
  walks zero place h = ends (next_past place (omega arith))
  walks (suc fuel) place h =
      ⊎_elim
      (λ inside.
      let some = next_inside place inside in
      let more = walks fuel (onward book place) (omega (arith, (onward_bounds place inside).0)) in
      subst (λ o. Walk book place (followed_by o (items_from fuel book (onward book place)))) (sym some) (tells some more))
      (λ past. let none = next_past place past in subst (λ o. Walk book place (followed_by o (items_from fuel book (onward book place)))) (sym none) (ends none))
      (cases_lt place (length book))

  pub one_way : {place : ℕ} {xs ys : List Item} → Walk book place xs → Walk book place ys → xs ≡ ys
  one_way (ends e) (ends f) = refl
  one_way (ends e) (tells f w) = let no : ◌≡◌ {A = ℕ} 0 1 = cc in absurd (omega arith)
  one_way (tells e v) (ends f) = let no : ◌≡◌ {A = ℕ} 0 1 = cc in absurd (omega arith)
  one_way (tells {item = x} e v) (tells {item = y} f w) = let same : x ≡ y = cc in λ i. same i ∷ one_way v w i

  -- what one item adds
  counted : (place : ℕ) (items : List Item) (d : Result Instruction Cause) → place < length book → behind place (length book) d + (read items + dropped book items) ≡ length book → place + (read (placed place d ∷ items) + dropped book (placed place d ∷ items)) ≡ length book
  counted place items (Ok i) inside h = omega arith
  counted place items (Err cause) inside h = omega arith

  pub no_loss_from : {place : ℕ} {items : List Item} → Walk book place items → place ≤ length book → place + (read items + dropped book items) ≡ length book
  no_loss_from {place} (ends e) h = omega (arith, past_from_none place e)
  no_loss_from (tells {place} {item} {items} e w) h =
      let inside = inside_from_some place item e in
      let told = next_inside place inside in
      let is : placed place (decoded (drop place book)) ≡ item = cc in
      let rest = no_loss_from w (onward_bounds place inside).1 in
      subst (λ x. place + (read (x ∷ items) + dropped book (x ∷ items)) ≡ length book) is
      (counted place items _ inside (subst (λ n. n + (read items + dropped book items) ≡ length book) (onward_inside place inside) rest))

  pub items_walk : Walk book 0 (items book)
  unfolding items
  items_walk = walks (length book) 0 (omega arith)

  pub walkable : Walkable book
  walkable = record { walk = items_walk; only = λ others w. one_way w items_walk; no_loss = omega (arith, no_loss_from items_walk (omega arith)) }

  -- what a walk tells at a place is what stands there
  pub walk_next : {place : ℕ} {xs : List Item} (item : Item) → Walk book place xs → next book place ≡ Some item → (ys : List Item) × (xs ≡ item ∷ ys) × Walk book (onward book place) ys
  walk_next item (ends none) some = let no : ◌≡◌ {A = ℕ} 0 1 = cc in absurd (omega arith)
  walk_next item (tells {item = x} {items = xs} is w) some = let same : x ≡ item = cc in (xs, λ i. same i ∷ xs, w)

  pub walk_ends : {place : ℕ} {xs : List Item} → Walk book place xs → next book place ≡ None → xs ≡ []
  walk_ends (ends none) e = refl
  walk_ends (tells some w) e = let no : ◌≡◌ {A = ℕ} 0 1 = cc in absurd (omega arith)

-- with each item that a reader tells, less of its book is left
pub falls : {reader further : Reader} {item : Result Entry Fault} → Stepped reader (Some item) further → length (book_of further) - place_of further < length (book_of reader) - place_of reader
falls {reader} {further} {item} step =
    subst (λ b. length b - place_of further < length (book_of reader) - place_of reader) (sym step.book)
    (subst (λ p. length (book_of reader) - p < length (book_of reader) - place_of reader) (sym step.place) (next_falls (book_of reader) (place_of reader) (item_of item) (sym step.item)))
