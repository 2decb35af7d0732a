-- Entries of a table by their numbers. Assumes nothing.
use Rattle.std.proofs.Common.{◌≡◌, ℕ, zero, suc, ◌-◌, ◌<◌, ◌≤◌, ◌⊎◌, List, [], ◌∷◌, map, length, get_or, set, is_some, Some, None, Option, refl, ap, ◌∙◌, inl, inr, ⊎_elim, arith}
use Rattle.std.proofs.lemmas.List.{get_or_past, set_past, set-get_or, get_or-set_same, get_or-set_other, length-set}
use Rattle.std.proofs.lemmas.Bool.{cases_lt}
use Rattle.std.specs.Option.{option_map}
use Rattle.sheet.specs.declared.forms.Sheet.{Sheet}
use Rattle.sheet.specs.declared.forms.Step.{Step}
use Rattle.sheet.specs.Sheets.{numbered, step_at, has_step, rule_sheet, without_name}
use Rattle.sheet.specs.Edits.{replaced}

module _ {X : Type 0} (none : X) (xs : List X) where
  -- what the code reads for a number of the table
  pub numbered_read : (n : ℕ) → 0 < n → get_or xs (n - 1) none ≡ numbered none xs n
  numbered_read zero h = absurd (omega arith)
  numbered_read (suc n) h = let e : suc n - 1 ≡ n = omega arith in ap (λ k. get_or xs k none) e

  pub numbered_outside : (n : ℕ) → (n ≡ 0) ⊎ (length xs < n) → numbered none xs n ≡ none
  numbered_outside zero h = refl
  numbered_outside (suc n) (inl e) = absurd (omega arith)
  numbered_outside (suc n) (inr h) = get_or_past xs n none (omega arith)

  pub replaced_outside : (n : ℕ) (x : X) → (n ≡ 0) ⊎ (length xs < n) → replaced xs n x ≡ xs
  replaced_outside zero x h = refl
  replaced_outside (suc n) x (inl e) = absurd (omega arith)
  replaced_outside (suc n) x (inr h) = set_past xs n x (omega arith)

  -- to put an entry where it stands changes nothing
  pub replaced_same : (n : ℕ) → replaced xs n (numbered none xs n) ≡ xs
  replaced_same zero = refl
  replaced_same (suc n) = set-get_or xs n none

  -- what the code writes for a number of the table
  pub replaced_write : (n : ℕ) (x : X) → 0 < n → set xs (n - 1) x ≡ replaced xs n x
  replaced_write zero x h = absurd (omega arith)
  replaced_write (suc n) x h = let e : suc n - 1 ≡ n = omega arith in ap (λ k. set xs k x) e

  pub length-replaced : (n : ℕ) (x : X) → length (replaced xs n x) ≡ length xs
  length-replaced zero x = refl
  length-replaced (suc n) x = length-set xs n x

  -- the entries of a table with one replaced
  pub numbered-replaced_same : (n : ℕ) (x : X) → 0 < n → n ≤ length xs → numbered none (replaced xs n x) n ≡ x
  numbered-replaced_same zero x p h = absurd (omega arith)
  numbered-replaced_same (suc n) x p h = get_or-set_same xs n x none (omega arith)

  pub numbered-replaced_other : (n m : ℕ) (x : X) → (m ≡ n → ⊥) → numbered none (replaced xs n x) m ≡ numbered none xs m
  numbered-replaced_other zero m x d = refl
  numbered-replaced_other (suc n) zero x d = refl
  numbered-replaced_other (suc n) (suc m) x d = get_or-set_other xs n m x none (λ e. d (ap suc e))

  -- an entry that was taken out is not there, whatever the number
  pub numbered_cleared : (n : ℕ) → numbered none (replaced xs n none) n ≡ none
  numbered_cleared zero = refl
  numbered_cleared (suc n) =
      ⊎_elim (λ h. get_or-set_same xs n none none h)
      (λ h. ap (λ ys. get_or ys n none) (set_past xs n none h) ∙ get_or_past xs n none h)
      (cases_lt n (length xs))

get_or-map_default : {X Y : Type 0} (f : X → Y) (none : X) (xs : List X) (n : ℕ) → get_or (map f xs) n (f none) ≡ f (get_or xs n none)
get_or-map_default f none [] n = refl
get_or-map_default f none (x ∷ xs) zero = refl
get_or-map_default f none (x ∷ xs) (suc n) = get_or-map_default f none xs n

pub numbered-map : {X Y : Type 0} (f : X → Y) (none : X) (xs : List X) (n : ℕ) → numbered (f none) (map f xs) n ≡ f (numbered none xs n)
numbered-map f none xs zero = refl
numbered-map f none xs (suc n) = get_or-map_default f none xs n

-- what a source over a full sheet tells of a step
pub told_step : (sheet : Sheet) (n : ℕ) → step_at (rule_sheet sheet) n ≡ option_map without_name (numbered None sheet.steps n)
told_step sheet n = numbered-map (option_map without_name) None sheet.steps n

some_mapped : (o : Option Step) → is_some (option_map without_name o) ≡ is_some o
some_mapped None = refl
some_mapped (Some step) = refl

-- and whether it tells one
pub told_some : (sheet : Sheet) (n : ℕ) → has_step (rule_sheet sheet) n ≡ is_some (numbered None sheet.steps n)
told_some sheet n = ap is_some (told_step sheet n) ∙ some_mapped (numbered None sheet.steps n)
