-- Vessels for the worked example. Assumes nothing.
use Rattle.std.proofs.Common.{◌≡◌, ℕ, zero, suc, ◌<◌, ◌≤◌, List, [], ◌∷◌, get_or, replicate, Some, None, Option, refl, ap, sym, ◌∙◌, subst, arith, lit≤}
use Rattle.std.proofs.lemmas.Option.{none-some, same_Some}
use Rattle.std.proofs.lemmas.List.{get_or-replicate}
use Rattle.vessels.specs.declared.placed.Placed.{Placed}
use Rattle.vessels.specs.Sharing.{Shares}
use Rattle.vessels.specs.Vessels.{at, Keeps, Gets, stock_for, Due, Numbered, GivesOut, all, missing}
use Rattle.windows.specs.Placing.{placed_at}
use Rattle.figures.specs.Example.{one_of_each, started, in_first_vessels}

module _ (placed : List (Option Placed)) (numbers : List ℕ) (place : ℕ) where
  -- a step from which no lower one keeps vessel 1 gets it
  one_due : (step : Placed) → at placed place ≡ Some step → (stock : List ℕ) → 1 ≤ stock_for stock step
      → ((lower : ℕ) (holder : Placed) → lower < place → at placed lower ≡ Some holder → Keeps 24 holder (get_or numbers lower 0) step 1 → ⊥)
      → Due 24 stock placed numbers place 1
  one_due step there stock some free =
      record {
        if_absent = λ none. absurd (none-some step (sym none ∙ there));
        if_present =
            λ other is.
            subst (λ (step : Placed). Gets 24 (stock_for stock step) placed numbers place step 1) (same_Some step other (sym there ∙ is))
            (record {
              from_one = lit≤ tt;
              in_stock = some;
              free = λ taken. free taken.by taken.holder taken.lower taken.present taken.keeps;
              smallest = λ smaller low high. absurd (omega arith);
            });
      }

  none_due : at placed place ≡ None → (stock : List ℕ) (vessel : ℕ) → vessel ≡ 0 → Due 24 stock placed numbers place vessel
  none_due out stock vessel none = record { if_absent = λ _. none; if_present = λ step present. absurd (none-some step (sym out ∙ present)) }

-- a step keeps no vessel from one of another kind
other_kind : (known holder step : Placed) (number : ℕ) → Some known ≡ Some holder → Keeps 24 holder number step 1 → known.kind ≡ step.kind
other_kind known holder step number is keeps = ap (λ (step : Placed). step.kind) (same_Some known holder is) ∙ keeps.same_kind

-- the three steps have vessels of three kinds
three_due : (more : List (Option Placed)) (more_numbers : List ℕ) (i : ℕ) → i < 3
    → Numbered 24 one_of_each (started more) (in_first_vessels more_numbers) i
three_due more numbers zero low =
    one_due (started more) (in_first_vessels numbers) 0 (placed_at 0 6 0) refl one_of_each (lit≤ tt)
    (λ lower holder less is keeps. absurd (omega arith))
three_due more numbers (suc zero) low =
    one_due (started more) (in_first_vessels numbers) 1 (placed_at 6 20 1) refl one_of_each (lit≤ tt) apart
  where
    apart : (lower : ℕ) (holder : Placed) → lower < 1 → at (started more) lower ≡ Some holder
        → Keeps 24 holder (get_or (in_first_vessels numbers) lower 0) (placed_at 6 20 1) 1 → ⊥
    apart zero holder less is keeps = omega (arith, other_kind (placed_at 0 6 0) holder (placed_at 6 20 1) _ is keeps)
    apart (suc lower) holder less is keeps = omega arith
three_due more numbers (suc (suc zero)) low =
    one_due (started more) (in_first_vessels numbers) 2 (placed_at 26 4 2) refl one_of_each (lit≤ tt) apart
  where
    apart : (lower : ℕ) (holder : Placed) → lower < 2 → at (started more) lower ≡ Some holder
        → Keeps 24 holder (get_or (in_first_vessels numbers) lower 0) (placed_at 26 4 2) 1 → ⊥
    apart zero holder less is keeps = omega (arith, other_kind (placed_at 0 6 0) holder (placed_at 26 4 2) _ is keeps)
    apart (suc zero) holder less is keeps = omega (arith, other_kind (placed_at 6 20 1) holder (placed_at 26 4 2) _ is keeps)
    apart (suc (suc lower)) holder less is keeps = omega arith
three_due more numbers (suc (suc (suc i))) low = absurd (omega arith)

-- no step stands there
no_step_due : (count i : ℕ) → i < count → get_or {A = Option Placed} (replicate count None) i None ≡ None
no_step_due count i low = get_or-replicate count i None None low

pub brew_given : GivesOut 24 one_of_each (started (replicate 28 None)) (all (in_first_vessels (replicate 28 0)))
brew_given = record { long = refl; each = each }
  where
    each : (i : ℕ) → i < 31 → Numbered 24 one_of_each (started (replicate 28 None)) (in_first_vessels (replicate 28 0)) i
    each zero low = three_due (replicate 28 None) (replicate 28 0) 0 (lit≤ tt)
    each (suc zero) low = three_due (replicate 28 None) (replicate 28 0) 1 (lit≤ tt)
    each (suc (suc zero)) low = three_due (replicate 28 None) (replicate 28 0) 2 (lit≤ tt)
    each (suc (suc (suc i))) low =
        none_due (started (replicate 28 None)) (in_first_vessels (replicate 28 0)) (suc (suc (suc i)))
        (no_step_due 28 i (omega arith)) one_of_each _ (get_or-replicate 28 i 0 0 (omega arith))

-- a starter of 6 hours from hour zero meets the ferment, which holds the only vessel of its kind
pub six_missing : GivesOut 24 one_of_each (started (Some (placed_at 0 6 1) ∷ replicate 27 None)) (missing 4)
six_missing =
    record {
      place = 3;
      is_step = lit≤ tt;
      is_at = refl;
      numbers = in_first_vessels [];
      lower = three_due (Some (placed_at 0 6 1) ∷ replicate 27 None) [];
      without =
          record {
            step = placed_at 0 6 1;
            present = refl;
            none =
                λ vessel low high.
                record {
                  by = 1;
                  lower = lit≤ tt;
                  holder = placed_at 6 20 1;
                  present = refl;
                  keeps =
                      record {
                        has = omega arith;
                        same_kind = refl;
                        shares =
                            record {
                              shared = 0;
                              is_class = lit≤ tt;
                              by_one = (18, lit≤ tt, refl);
                              by_other = (0, lit≤ tt, refl);
                            };
                      };
                };
          };
    }

-- one of 4 hours from hour 2 on does not
apart_from_ferment : Shares 24 (placed_at 6 20 1) (placed_at 2 4 1) → ⊥
apart_from_ferment shares =
    let one = shares.by_one in
    let other = shares.by_other in
    omega (arith, one.1, one.2, other.1, other.2)

abbrev pub calm_brew : List (Option Placed)
calm_brew = started (Some (placed_at 2 4 1) ∷ replicate 27 None)

pub four_given : GivesOut 24 one_of_each calm_brew (all (in_first_vessels (1 ∷ replicate 27 0)))
four_given = record { long = refl; each = each }
  where
    apart : (lower : ℕ) (holder : Placed) → lower < 3 → at calm_brew lower ≡ Some holder
        → Keeps 24 holder (get_or (in_first_vessels (1 ∷ replicate 27 0)) lower 0) (placed_at 2 4 1) 1 → ⊥
    apart zero holder less is keeps = omega (arith, other_kind (placed_at 0 6 0) holder (placed_at 2 4 1) _ is keeps)
    apart (suc zero) holder less is keeps =
        apart_from_ferment (subst (λ (step : Placed). Shares 24 step (placed_at 2 4 1)) (sym (same_Some (placed_at 6 20 1) holder is)) keeps.shares)
    apart (suc (suc zero)) holder less is keeps = omega (arith, other_kind (placed_at 26 4 2) holder (placed_at 2 4 1) _ is keeps)
    apart (suc (suc (suc lower))) holder less is keeps = omega arith

    each : (i : ℕ) → i < 31 → Numbered 24 one_of_each calm_brew (in_first_vessels (1 ∷ replicate 27 0)) i
    each zero low = three_due (Some (placed_at 2 4 1) ∷ replicate 27 None) (1 ∷ replicate 27 0) 0 (lit≤ tt)
    each (suc zero) low = three_due (Some (placed_at 2 4 1) ∷ replicate 27 None) (1 ∷ replicate 27 0) 1 (lit≤ tt)
    each (suc (suc zero)) low = three_due (Some (placed_at 2 4 1) ∷ replicate 27 None) (1 ∷ replicate 27 0) 2 (lit≤ tt)
    each (suc (suc (suc zero))) low =
        one_due calm_brew (in_first_vessels (1 ∷ replicate 27 0)) 3 (placed_at 2 4 1) refl one_of_each (lit≤ tt) apart
    each (suc (suc (suc (suc i)))) low =
        none_due calm_brew (in_first_vessels (1 ∷ replicate 27 0)) (suc (suc (suc (suc i)))) (no_step_due 27 i (omega arith)) one_of_each _
        (get_or-replicate 27 i 0 0 (omega arith))
