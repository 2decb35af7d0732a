-- A table that is copied into an empty one, entry by entry. Assumes nothing.
use Rattle.std.proofs.Common.{◌≡◌, ℕ, zero, suc, ◌<◌, ◌≤◌, List, length, replicate, sym, refl, ap, ◌∙◌, ⊎_elim, arith}
use Rattle.std.proofs.lemmas.List.{ext_get_or, length-replicate}
use Rattle.std.proofs.lemmas.Bool.{cases_eq}
use Rattle.changes.proofs.Kept.{numbered_same}
use Rattle.sheet.proofs.Numbered.{length-replaced, numbered-replaced_same, numbered-replaced_other}
use Rattle.sheet.specs.Edits.{replaced}
use Rattle.sheet.specs.Sheets.{numbered}

-- the entries up to number n are copied, and the others are not there
pub record Copied {X : Type 0} (none : X) (xs : List X) (n : ℕ) (ys : List X) : Type 0 where
  pub len : length ys ≡ length xs
  pub copied : (k : ℕ) → k ≤ n → numbered none ys k ≡ numbered none xs k
  pub absent : (k : ℕ) → n < k → numbered none ys k ≡ none

module _ {X : Type 0} (none : X) (xs : List X) where
  none_copied : (ys : List X) (k : ℕ) → k ≤ 0 → numbered none ys k ≡ numbered none xs k
  none_copied ys zero h = refl
  none_copied ys (suc k) h = absurd (omega arith)

  pub copied_none : (count : ℕ) → length xs ≡ count → Copied none xs 0 (replicate count none)
  copied_none count long = record {
    len = length-replicate count none ∙ sym long;
    copied = none_copied (replicate count none);
    absent = λ k _. numbered_same count k none;
  }

  module _ {n : ℕ} {ys : List X} (before : Copied none xs n ys) where
    pub copied_more : (x : X) → numbered none xs (suc n) ≡ x → suc n ≤ length xs → Copied none xs (suc n) (replaced ys (suc n) x)
    copied_more x is inside = record {
      len = length-replaced none ys (suc n) x ∙ before.len;
      copied = λ k h.
          ⊎_elim
          (λ same. ap (numbered none (replaced ys (suc n) x)) same ∙ numbered-replaced_same none ys (suc n) x (omega arith) (omega (arith, before.len)) ∙ sym is ∙ ap (numbered none xs) (sym same))
          (λ apart. numbered-replaced_other none ys (suc n) k x apart ∙ before.copied k (omega (arith, apart)))
          (cases_eq k (suc n));
      absent = λ k h. numbered-replaced_other none ys (suc n) k x (λ same. absurd (omega (arith, same))) ∙ before.absent k (omega arith);
    }

    pub copied_absent : numbered none xs (suc n) ≡ none → Copied none xs (suc n) ys
    copied_absent is = record {
      len = before.len;
      copied = λ k h.
          ⊎_elim
          (λ same. ap (numbered none ys) same ∙ before.absent (suc n) (omega arith) ∙ sym is ∙ ap (numbered none xs) (sym same))
          (λ apart. before.copied k (omega (arith, apart)))
          (cases_eq k (suc n));
      absent = λ k h. before.absent k (omega arith);
    }

    pub copied_all : length xs ≤ n → ys ≡ xs
    copied_all all = ext_get_or none ys xs before.len (λ i h. before.copied (suc i) (omega (arith, before.len)))
