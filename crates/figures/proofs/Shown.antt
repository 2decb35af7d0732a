-- The figures of the worked example. Assumes nothing.
use Rattle.std.proofs.Common.{◌≡◌, ℕ, true, List, [], ◌∷◌, replicate, ℤ, pos, neg_ℤ, ◌≤ℤ◌, Some, None, Option, refl, subst, inl, inr, lit≤}
use lib.Signed.{le_z_yes}
use Rattle.sheet.specs.declared.forms.Link.{Link}
use Rattle.sheet.specs.Layers.{at_period}
use Rattle.sheet.specs.Links.{IsLink, after, within, floor, ceiling, turn, Run, Loop, run_weight}
use Rattle.sheet.specs.Sheets.{RuleSheet}
use Rattle.sheet.specs.Waits.{delay, IsWait, IsBound}
use Rattle.walks.proofs.LinkLaws.{links_hold}
use Rattle.walks.proofs.RunLaws.{along, no_lawful}
use Rattle.choose.specs.Choosing.{earliest, least_crowded}
use Rattle.plan.proofs.Settling.{settled}
use Rattle.bound.proofs.Bisecting.{is_bound}
use Rattle.figures.specs.Example.{brew, brew_within, brew_beside, no_brew, one_of_each}
use Rattle.figures.specs.Figures.{Accepted, Refused, RefusedBy, Figures}
use Rattle.figures.proofs.Brewing.{brew_filled, six_filled, four_filled}
use Rattle.figures.proofs.Giving.{brew_given, six_missing, four_given}
use Rattle.figures.proofs.Turning.{ferment_turn, only_turn}
use Rattle.figures.proofs.Written.{written, lawful_test, written_lawful}

-- starts for the three steps
abbrev pub three : ℕ → ℕ → ℕ → List (Option ℤ)
three a b c = Some (pos a) ∷ Some (pos b) ∷ Some (pos c) ∷ replicate 28 None

-- a run of links, made link by link
abbrev pub Way : RuleSheet → ℕ → ℕ → Type 0
Way s i j = (ls : List Link) × Run s i j ls

abbrev pub arrived : (s : RuleSheet) (i : ℕ) → Way s i i
arrived s i = ([], refl)

abbrev pub by : (s : RuleSheet) (j : ℕ) (l : Link) → IsLink s l → Way s l.to j → Way s l.from j
by s j l link rest = (l ∷ rest.0, (refl, link, rest.1))

-- a wait is shown by a timetable that has it and a run of links that asks for it
pub wait_by : (s : RuleSheet) (i j : ℕ) (wait : ℤ) (table : List (Option ℤ))
    → lawful_test s table ≡ true → delay (written table) i j ≡ wait
    → (way : Way s i j) → run_weight s.period way.0 ≡ wait → IsWait s i j wait
wait_by s i j wait table passed has way weighs =
    record {
      attained = ∣ (written table, written_lawful s table passed, has) ∣₁;
      least = λ t k. subst (λ (w : ℤ). w ≤ℤ delay t i j) weighs (along s t (links_hold s t k) i j way.0 way.1);
    }

accepted_by : (s : RuleSheet) (table : List (Option ℤ)) → lawful_test s table ≡ true → Accepted s
accepted_by s table passed = ∣ (written table, written_lawful s table passed) ∣₁

before_crop : IsWait brew 0 3 (pos 26)
before_crop =
    wait_by brew 0 3 (pos 26) (three 0 6 26) refl refl
    (by brew 3 _ (floor 1 refl) (by brew 3 _ (after 1 1 2 0 0 refl) (by brew 3 _ (after 2 2 3 0 0 refl) (arrived brew 3)))) refl

after_crop : IsWait brew 3 0 (neg_ℤ (pos 56))
after_crop =
    wait_by brew 3 0 (neg_ℤ (pos 56)) (three 0 36 56) refl refl (by brew 0 _ (ceiling 3 refl) (arrived brew 0)) refl

crop_to_ferment : IsWait brew 3 2 (neg_ℤ (pos 42))
crop_to_ferment =
    wait_by brew 3 2 (neg_ℤ (pos 42)) (three 0 6 48) refl refl (by brew 2 _ (after 3 3 2 2 2 refl) (arrived brew 2)) refl

turn_loop : (s : RuleSheet) → IsLink s ferment_turn → Loop s (ferment_turn ∷ [])
turn_loop s link = record { base = 2; closed = (refl, link, refl); some = lit≤ tt; once = (tt, tt) }

bound : IsBound brew 20
bound =
    is_bound brew 20 (lit≤ tt) (accepted_by (at_period brew 20) (three 0 6 26) refl)
    (inr (record { links = ferment_turn ∷ []; loop = turn_loop brew (turn 2 refl); heavy = le_z_yes tt }))

period_19 : RefusedBy (at_period brew 19) (402 ∷ [])
period_19 =
    record {
      refused = no_lawful (at_period brew 19) 2 (ferment_turn ∷ []) (refl, turn 2 refl, refl) (le_z_yes tt);
      links = ferment_turn ∷ [];
      loop = turn_loop (at_period brew 19) (turn 2 refl);
      heavy = le_z_yes tt;
      only = only_turn;
    }

-- mash, ferment and rule 4 make a loop of 1 hour
too_tight : Way (brew_within 25) 1 1
too_tight =
    let s = brew_within 25 in
    by s 1 _ (after 1 1 2 0 0 refl) (by s 1 _ (after 2 2 3 0 0 refl) (by s 1 _ (within 4 1 3 25 refl) (arrived s 1)))

within_25 : Refused (brew_within 25)
unfolding too_tight
within_25 = no_lawful (brew_within 25) 1 too_tight.0 too_tight.1 (le_z_yes tt)

bound_of_none : IsBound no_brew 1
bound_of_none = is_bound no_brew 1 (lit≤ tt) (accepted_by (at_period no_brew 1) (replicate 31 None) refl) (inl refl)

pub figures : Figures
figures =
    record {
      before_crop = before_crop;
      after_crop = after_crop;
      crop_to_ferment = crop_to_ferment;
      bound = bound;
      period_20 = accepted_by (at_period brew 20) (three 0 6 26) refl;
      period_19 = period_19;
      within_26 = accepted_by (brew_within 26) (three 0 6 26) refl;
      within_25 = within_25;
      by_earliest = settled brew earliest one_of_each _ _ brew_filled brew_given;
      bound_of_none = bound_of_none;
      six_beside = settled (brew_beside 6) earliest one_of_each _ _ six_filled six_missing;
      four_beside = settled (brew_beside 4) least_crowded one_of_each _ _ four_filled four_given;
    }
