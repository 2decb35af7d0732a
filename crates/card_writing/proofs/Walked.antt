-- Commands that are spelled one after another are read one after another. Assumes nothing.
use Rattle.std.proofs.Common.{◌≡◌, ℕ, ◌+◌, ◌<◌, true, List, [], ◌∷◌, length, drop, Some, Ok, sym, refl, ap, ◌∙◌, subst, arith, length-append}
use Rattle.std.proofs.lemmas.List.{length-drop, drop-drop, drop_at}
use Rattle.std.specs.List.{AllByRecursion}
use Rattle.book.proofs.Spelling.{reads_back}
use Rattle.book.proofs.Walking.{next_inside, next_past, onward_inside, walkable}
use Rattle.book.specs.Commands.{Instruction, add_step, remove_step, set_duration, put_after, put_within, put_at, remove_rule, set_period, set_span, set_vessels, width, decoded}
use Rattle.book.specs.Reading.{Item, placed, behind}
use Rattle.book.specs.Walks.{Walk, ends, tells, items}
use Rattle.book.specs.Writing.{spelled, eight_bytes}
use Rattle.card_writing.specs.Contents.{spelled_all}

-- commands in their places, from a place on
abbrev pub placed_from : ℕ → List Instruction → List Item
placed_from place [] = []
placed_from place (i ∷ is) = Ok (record { offset = place; instruction = i }) ∷ placed_from (place + width i) is

abbrev pub Spells : Instruction → Type 0
Spells i = eight_bytes i ≡ true

some_bytes : (i : Instruction) → 0 < length (spelled i)
some_bytes (add_step step duration kind name) = omega arith
some_bytes (remove_step step) = omega arith
some_bytes (set_duration step duration) = omega arith
some_bytes (put_after rule u v gap carry) = omega arith
some_bytes (put_within rule u v hours) = omega arith
some_bytes (put_at rule v hour) = omega arith
some_bytes (remove_rule rule) = omega arith
some_bytes (set_period period) = omega arith
some_bytes (set_span span) = omega arith
some_bytes (set_vessels kind count) = omega arith

walks_on : (book : List ℕ) (is : List Instruction) (place : ℕ) → AllByRecursion Spells is → drop place book ≡ spelled_all is → Walk book place (placed_from place is)
walks_on book [] place ok rest = ends (next_past book place (omega (arith, length-drop place book, ap length rest)))
walks_on book (i ∷ is) place ok rest =
    let back = reads_back i (spelled_all is) ok.0 in
    let told : decoded (drop place book) ≡ Ok i = ap decoded rest ∙ back.1 in
    let inside : place < length book = omega (arith, length-drop place book, ap length rest, length-append (spelled i) (spelled_all is), some_bytes i) in
    let left : drop (place + width i) book ≡ spelled_all is =
    sym (drop-drop (width i) place book) ∙ ap (drop (width i)) rest ∙ drop_at (spelled i) (spelled_all is) (width i) back.0 in
    let onto = onward_inside book place inside ∙ ap (behind place (length book)) told in
    tells (next_inside book place inside ∙ ap (λ d. Some (placed place d)) told)
    (subst (λ p. Walk book p (placed_from (place + width i) is)) (sym onto) (walks_on book is (place + width i) ok.1 left))

-- what a reader tells of them is what was spelled, each in its place
pub items_spelled : (is : List Instruction) → AllByRecursion Spells is → items (spelled_all is) ≡ placed_from 0 is
items_spelled is ok = let book = spelled_all is in sym ((walkable book).only _ (walks_on book is 0 ok refl))
