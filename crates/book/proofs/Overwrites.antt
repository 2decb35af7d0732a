-- Bytes written over others. Assumes nothing.
use Rattle.std.proofs.Common.{◌≡◌, ℕ, ◌+◌, ◌≤◌, List, ◌++◌, length, take, drop, sym, ap, ◌∙◌, append_assoc, arith, length-append}
use borrow.Rule.Slice.PartMut.{put_mid}
use Rattle.std.proofs.lemmas.List.{length-take-le, length-drop, take_at, drop_at, drop-drop}
use Rattle.book.specs.Writing.{overwritten}

-- a part of a slice that was copied into
pub copied_is : (old new part : List ℕ) (place k : ℕ) → part ≡ new → k ≡ length new → put_mid place k old part ≡ overwritten old place new
copied_is old new part place k e l =
    let behind : drop k (drop place old) ≡ drop (place + length new) old = drop-drop k place old ∙ ap (λ n. drop (place + n) old) l in
    λ i. take place old ++ (e i ++ behind i)

-- what stands from the place on after the write
pub drop-overwritten : (old new : List ℕ) (place : ℕ) → place ≤ length old → drop place (overwritten old place new) ≡ new ++ drop (place + length new) old
drop-overwritten old new place h = drop_at (take place old) _ place (length-take-le place old h)

pub length-overwritten : (old new : List ℕ) (place : ℕ) → place + length new ≤ length old → length (overwritten old place new) ≡ length old
length-overwritten old new place h =
    length-append (take place old) _
    ∙ ap (λ n. n + length (new ++ drop (place + length new) old)) (length-take-le place old (omega arith))
    ∙ omega (arith, length-append new (drop (place + length new) old), length-drop (place + length new) old)

-- two writes, the second right behind the first, are one
pub overwritten_twice : (old xs ys : List ℕ) (place : ℕ) → place ≤ length old → overwritten (overwritten old place xs) (place + length xs) ys ≡ overwritten old place (xs ++ ys)
overwritten_twice old xs ys place h =
    let rest = drop (place + length xs) old in
    let front = take place old ++ xs in
    let long : length front ≡ place + length xs = length-append (take place old) xs ∙ ap (λ n. n + length xs) (length-take-le place old h) in
    let once : overwritten old place xs ≡ front ++ rest = sym (append_assoc (take place old) xs rest) in
    let kept : take (place + length xs) (overwritten old place xs) ≡ front = ap (take (place + length xs)) once ∙ take_at front rest _ long in
    let left : drop (place + length xs + length ys) (overwritten old place xs) ≡ drop (place + length (xs ++ ys)) old =
    sym (drop-drop (length ys) (place + length xs) (overwritten old place xs))
    ∙ ap (drop (length ys)) (ap (drop (place + length xs)) once ∙ drop_at front rest _ long)
    ∙ drop-drop (length ys) (place + length xs) old
    ∙ ap (λ n. drop n old) (omega (arith, length-append xs ys)) in
    (λ i. kept i ++ (ys ++ left i))
    ∙ append_assoc (take place old) xs (ys ++ drop (place + length (xs ++ ys)) old)
    ∙ ap (λ l. take place old ++ l) (sym (append_assoc xs ys (drop (place + length (xs ++ ys)) old)))
