-- Which classes a step covers, and how many steps cover a class. Assumes nothing.
use Rattle.std.proofs.Common.{◌≡◌, ℕ, ◌+◌, ◌<◌, ◌≤◌, eqb, ltb, List, length, get_or, take, drop, set, Option, Decides, sym, refl, ap, ◌∙◌, ⊎_elim, mod-eq_of_lt, arith, below_more}
use Rattle.std.proofs.lemmas.List.FromFn.{fill_by_all}
use Rattle.std.proofs.lemmas.List.{drop-drop, drop-set-lt, get_or-take, length-take-le, get_or-set_same, get_or-set_other}
use Rattle.std.proofs.lemmas.Bool.{cases_Bool, ltb-true, ltb-false}
use Rattle.std.proofs.lemmas.Bool.Decides.{Decides-eqb, Decides-below_or, same_from_decides}
use Rattle.choose.specs.Classes.{class, Covers}
use Rattle.vessels.specs.declared.placed.Placed.{Placed}
use Rattle.windows.specs.Crowds.{covers, crowd, crowds}

-- the test of the definition tells what is covered
pub covers_decides : (period start duration c : ℕ) → Decides (covers period start duration c) (Covers period start duration c)
covers_decides period start duration c =
    Decides-below_or (λ k. eqb (class period (start + k)) c) (λ k. class period (start + k) ≡ c) (λ n. covers period start n c) (λ k. Decides-eqb (class period (start + k)) c) refl (λ _. refl) duration

-- a step covers a class exactly if it takes longer than the fewest hours after its start at which the class comes up
module _ (period start duration c hours : ℕ) (is_class : c < period) (comes : class period (start + hours) ≡ class period c) (fewest : (k : ℕ) → class period (start + k) ≡ class period c → hours ≤ k) where
  pub covers_when : Decides (ltb hours duration) (Covers period start duration c)
  covers_when = (
    λ yes_so. (hours, ltb-true _ _ yes_so, comes ∙ mod-eq_of_lt is_class),
    λ covered.
        let runs = covered.1 in
        let until = fewest covered.0 (covered.2 ∙ sym (mod-eq_of_lt is_class)) in
        ⊎_elim (λ yes_so. yes_so) (λ none. absurd (omega (arith, ltb-false _ _ none))) (cases_Bool (ltb hours duration)),
  )

  pub covers_value : ltb hours duration ≡ covers period start duration c
  covers_value = same_from_decides _ _ covers_when (covers_decides period start duration c)

-- one class more
pub counted_more : (f : ℕ → ℕ) (xs : List ℕ) (i new : ℕ) → i < length xs → ((k : ℕ) → k < i → get_or xs k 0 ≡ f k) → new ≡ f i → (k : ℕ) → k < i + 1 → get_or (set xs i new) k 0 ≡ f k
counted_more f xs i new inside before here =
    below_more _ _
    (λ k low. get_or-set_other xs i k new 0 (λ e. omega arith) ∙ before k low)
    (get_or-set_same xs i new 0 inside ∙ here)

pub rest_more : (xs old : List ℕ) (i new : ℕ) → drop i xs ≡ drop i old → drop (i + 1) (set xs i new) ≡ drop (i + 1) old
rest_more xs old i new same = drop-set-lt (i + 1) xs i new (omega arith) ∙ sym (drop-drop 1 i xs) ∙ ap (drop 1) same ∙ drop-drop 1 i old

-- all classes
pub counted_all : (period kind : ℕ) (placed : List (Option Placed)) (xs : List ℕ) → period ≤ length xs → ((k : ℕ) → k < period → get_or xs k 0 ≡ crowd period kind placed k) → take period xs ≡ crowds period kind placed
counted_all period kind placed xs room each =
    fill_by_all (crowd period kind placed) (take period xs) period 0 (length-take-le period xs room) (λ k low. get_or-take period xs k 0 low ∙ each k low)
