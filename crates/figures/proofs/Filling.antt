-- Windows, the next step and the filling of a timetable, shown by timetables that are written out. Assumes nothing.
use Rattle.std.proofs.Common.{◌≡◌, ℕ, zero, suc, ◌<◌, Bool, true, false, ◌&&◌, ◌⊎◌, List, [], ◌∷◌, get_or, ℤ, pos, ◌-ℤ◌, ◌≤ℤ◌, ◌<ℤ◌, is_some, Some, None, Option, unwrap_or, sym, refl, ap, ◌∙◌, subst, inl, inr, arith}
use lib.Signed.{le_z}
use Rattle.std.proofs.lemmas.Int.{ints}
use Rattle.std.proofs.lemmas.Bool.{and_parts, false≢true}
use Rattle.sheet.specs.Sheets.{RuleSheet}
use Rattle.sheet.specs.Timetables.{Timetable, start, Lawful}
use Rattle.vessels.specs.declared.placed.Placed.{Placed}
use Rattle.windows.specs.Placing.{start_of, starts}
use Rattle.windows.specs.Windows.{Agrees, IsWindow, IsSlack, Waiting, IsNext}
use Rattle.windows.proofs.Single.{slack_unique}
use Rattle.figures.proofs.Written.{written, lawful_test, written_lawful}

-- a written start is this hour
abbrev pub hour_test : Option ℤ → ℤ → Bool
hour_test None hour = false
hour_test (Some x) hour = le_z x hour && le_z hour x

-- a written start is that of the step, if the step is placed
abbrev pub agrees_test : Option Placed → Option ℤ → Bool
agrees_test None o = true
agrees_test (Some step) o = hour_test o (pos step.start)

abbrev pub behind : List (Option ℤ) → List (Option ℤ)
behind [] = []
behind (o ∷ table) = table

-- the written starts are those of the steps placed
abbrev pub agree_test : List (Option Placed) → List (Option ℤ) → Bool
agree_test [] table = true
agree_test (step ∷ steps) table = agrees_test step (get_or table 0 None) && agree_test steps (behind table)

behind_at : (table : List (Option ℤ)) (n : ℕ) → get_or (behind table) n None ≡ get_or table (suc n) None
behind_at [] n = refl
behind_at (o ∷ table) n = refl

is_hour : (step : Option Placed) (o : Option ℤ) (hour : ℤ) → agrees_test step o ≡ true → start_of step ≡ Some hour → o ≡ Some hour
is_hour None o hour passed is = absurd (false≢true (ap is_some is))
is_hour (Some step) None hour passed is = absurd (false≢true passed)
is_hour (Some step) (Some y) hour passed is =
    let two = and_parts (le_z y (pos step.start)) (le_z (pos step.start) y) passed in
    let low = two.0 in
    let high = two.1 in
    let same : y ≡ pos step.start = omega (arith, ints) in
    ap Some same ∙ is

each_agrees : (placed : List (Option Placed)) (table : List (Option ℤ)) → agree_test placed table ≡ true
    → (n : ℕ) (hour : ℤ) → start_of (get_or placed n None) ≡ Some hour → get_or table n None ≡ Some hour
each_agrees [] table passed n hour is = absurd (false≢true (ap is_some is))
each_agrees (step ∷ steps) table passed zero hour is =
    let here = (and_parts (agrees_test step (get_or table 0 None)) (agree_test steps (behind table)) passed).0 in
    is_hour step (get_or table 0 None) hour here is
each_agrees (step ∷ steps) table passed (suc n) hour is =
    let later = (and_parts (agrees_test step (get_or table 0 None)) (agree_test steps (behind table)) passed).1 in
    sym (behind_at table n) ∙ each_agrees steps (behind table) later n hour is

pub written_agrees : (placed : List (Option Placed)) (table : List (Option ℤ)) → agree_test placed table ≡ true
    → Agrees (starts placed) (written table)
written_agrees placed table passed zero hour is = absurd (false≢true (ap is_some is))
written_agrees placed table passed (suc n) hour is = each_agrees placed table passed n hour is

-- a timetable that agrees starts a placed step at its hour
pub starts_at : (t : Timetable) (n : ℕ) (hour : ℤ) → t (suc n) ≡ Some hour → start t (suc n) ≡ hour
starts_at t n hour is = ap (λ o. unwrap_or o (pos 0)) is

-- A lawful timetable, written out, that agrees with the starts placed and starts step n at an hour.
pub record Witness (s : RuleSheet) (placed : List (Option Placed)) (n : ℕ) (hour : ℤ) : Type 0 where
  pub table : List (Option ℤ)
  pub lawful : lawful_test s table ≡ true
  pub agrees : agree_test placed table ≡ true
  pub has : start (written table) n ≡ hour

pub window_by : (s : RuleSheet) (placed : List (Option Placed)) (n : ℕ) (first last : ℤ)
    → Witness s placed n first → Witness s placed n last
    → ((t : Timetable) → Lawful s t → Agrees (starts placed) t → (first ≤ℤ start t n) × (start t n ≤ℤ last))
    → IsWindow s (starts placed) n first last
window_by s placed n first last low high within =
    record {
      from =
          record {
            attained =
                ∣ (
                  written low.table,
                  written_lawful s low.table low.lawful,
                  written_agrees placed low.table low.agrees,
                  low.has,
                ) ∣₁;
            least = λ t k agrees. (within t k agrees).0;
          };
      to =
          record {
            attained =
                ∣ (
                  written high.table,
                  written_lawful s high.table high.lawful,
                  written_agrees placed high.table high.agrees,
                  high.has,
                ) ∣₁;
            greatest = λ t k agrees. (within t k agrees).1;
          };
    }

-- Step m has a window with at least so many hours between its ends.
pub record Roomy (s : RuleSheet) (placed : Timetable) (m : ℕ) (hours : ℤ) : Type 0 where
  pub first : ℤ
  pub last : ℤ
  pub window : IsWindow s placed m first last
  pub wide : hours ≤ℤ (last -ℤ first)

-- a waiting step comes next if every other waiting step has a higher number and no less slack
pub next_by : (s : RuleSheet) (placed : Timetable) (n : ℕ) (first last : ℤ) → Waiting s placed n
    → IsWindow s placed n first last
    → ((m : ℕ) → Waiting s placed m → (m ≡ n) ⊎ ((n < m) × Roomy s placed m (last -ℤ first)))
    → IsNext s placed n
next_by s placed n first last waiting window others =
    record {
      waiting = waiting;
      slack = last -ℤ first;
      is_slack = own;
      fewest = λ m w hours slack. fewest m hours slack (others m w);
      smallest = λ m less w hours slack. smallest m less hours (others m w);
    }
  where
    own : IsSlack s placed n (last -ℤ first)
    own = record { first = first; last = last; window = window; between = refl }

    fewest : (m : ℕ) (hours : ℤ) → IsSlack s placed m hours
        → (m ≡ n) ⊎ ((n < m) × Roomy s placed m (last -ℤ first)) → (last -ℤ first) ≤ℤ hours
    fewest m hours slack (inl same) =
        let e = slack_unique s placed n _ _ own (subst (λ (k : ℕ). IsSlack s placed k hours) same slack) in
        omega (arith, ints)
    fewest m hours slack (inr later) =
        let roomy = later.1 in
        let wide = roomy.wide in
        let e =
        slack_unique s placed m _ _
        (record { first = roomy.first; last = roomy.last; window = roomy.window; between = refl }) slack in
        omega (arith, ints)

    smallest : (m : ℕ) → m < n → (hours : ℤ) → (m ≡ n) ⊎ ((n < m) × Roomy s placed m (last -ℤ first))
        → (last -ℤ first) <ℤ hours
    smallest m less hours (inl same) = absurd (omega arith)
    smallest m less hours (inr later) = let more = later.0 in absurd (omega arith)
