-- A name passes its test exactly if its eight bytes are printable. Assumes nothing.
use Rattle.std.proofs.Common.{◌≡◌, ℕ, ◌<◌, true, List, length, get_or, ◌∙◌, ap, sym, subst, leb, arith, eqb-true, leb-true, eq-eqb, le-leb}
use Rattle.std.proofs.lemmas.Bool.{and_parts}
use Rattle.std.proofs.lemmas.List.Sums.{AllPass-from_list_all, list_all-from_AllPass}
use Rattle.std.specs.Prelude.{◌&&◌}
use Rattle.std.proofs.lemmas.List.{get_or_default}
use Rattle.changes.specs.Tests.{from, printable, name_fits}
use Rattle.sheet.specs.Limits.{From}

from_told : (low high n : ℕ) → from low high n ≡ true → From low high n
from_told low high n e = let p = and_parts _ _ e in (leb-true _ _ p.0, leb-true _ _ p.1)

from_is : (low high n : ℕ) → From low high n → from low high n ≡ true
from_is low high n h = ap (λ b. b && leb n high) (le-leb _ _ h.0) ∙ le-leb _ _ h.1

pub name_told : (name : List ℕ) → name_fits name ≡ true → (k : ℕ) → k < 8 → From 0x20 0x7E (get_or name k 0)
name_told name e k h =
    let p = and_parts _ _ e in
    let eight = eqb-true (length name) 8 p.0 in
    from_told _ _ _ (AllPass-from_list_all (from 0x20 0x7E) name p.1 k 0 (omega arith))

pub name_is : (name : List ℕ) → length name ≡ 8 → ((k : ℕ) → k < 8 → From 0x20 0x7E (get_or name k 0)) → name_fits name ≡ true
name_is name eight each =
    ap (λ b. b && printable name) (eq-eqb _ 8 eight)
    ∙ list_all-from_AllPass (from 0x20 0x7E) name (λ k d h. let e : get_or name k d ≡ get_or name k 0 = get_or_default name k d 0 h in
    subst (λ b. from 0x20 0x7E b ≡ true) (sym e) (from_is _ _ _ (each k (omega arith))))
