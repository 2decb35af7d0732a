-- Counts of classes, and the peaks of hours. Assumes nothing.
use Rattle.std.proofs.Common.{◌≡◌, ℕ, zero, suc, ◌+◌, ◌-◌, ◌*◌, ◌%◌, ◌<◌, ◌≤◌, max, List, [], ◌∷◌, ◌++◌, length, map, get_or, unwrap_or, sym, refl, ap, ◌∙◌, ⊎_elim, le_refl, mod-lt, mod-eq_of_lt, add-one, arith}
use native.Mathlib.Nat.{mod-eq-sub-mod, mod-add-mod, add-mod-mod}
use Rattle.std.specs.List.{range_with_len, reduce}
use Rattle.std.proofs.lemmas.Bool.{cases_lt}
use Rattle.std.proofs.lemmas.List.FromFn.{map-range_with_len_more}
use Rattle.std.proofs.lemmas.List.Sums.{fold-append}
use Rattle.choose.specs.Classes.{class, crowd_at, peak}

-- within the first round an hour is its own class
pub class_within : (period hour : ℕ) → hour < period → hour ≡ class period hour
class_within period hour within = sym (mod-eq_of_lt within)

pub class_round : (period hour : ℕ) → period ≤ hour → hour < 2 * period → hour - period ≡ class period hour
class_round period hour past within =
    let less : hour - period < period = omega arith in
    class_within period (hour - period) less ∙ sym (mod-eq-sub-mod past)

largest_more : (counts : List ℕ) (more : ℕ) → unwrap_or (reduce max (counts ++ more ∷ [])) 0 ≡ max (unwrap_or (reduce max counts) 0) more
largest_more [] more = omega arith
largest_more (count ∷ counts) more = fold-append max count counts (more ∷ [])

-- the peak is the largest of the counts of the classes in a row
pub largest_is_peak : (crowd : List ℕ) (n hour : ℕ) → unwrap_or (reduce max (map (λ k. crowd_at crowd (hour + k)) (range_with_len 0 n))) 0 ≡ peak crowd n hour
largest_is_peak crowd zero hour = refl
largest_is_peak crowd (suc n) hour =
    let count : ℕ → ℕ = λ k. crowd_at crowd (hour + k) in
    let last : 0 + n ≡ n = omega arith in
    ap (λ m. unwrap_or (reduce max (map count (range_with_len 0 m))) 0) (sym (add-one n))
    ∙ ap (λ counts. unwrap_or (reduce max counts) 0) (map-range_with_len_more count 0 n n last)
    ∙ largest_more (map count (range_with_len 0 n)) (count n)
    ∙ ap (λ p. max p (count n)) (largest_is_peak crowd n hour)

-- the peak of an hour is that of its class
pub peak_class : (crowd : List ℕ) (n hour : ℕ) → peak crowd n (hour % length crowd) ≡ peak crowd n hour
peak_class crowd zero hour = refl
peak_class crowd (suc n) hour =
    ap (λ p. max p (crowd_at crowd (hour % length crowd + n))) (peak_class crowd n hour)
    ∙ ap (λ c. max (peak crowd n hour) (get_or crowd c 0)) (mod-add-mod hour (length crowd) n)

-- hours of the same class have the same peak
pub peak_again : (crowd : List ℕ) (n from hours : ℕ) → peak crowd n (from + hours % length crowd) ≡ peak crowd n (from + hours)
peak_again crowd n from hours =
    sym (peak_class crowd n (from + hours % length crowd))
    ∙ ap (peak crowd n) (add-mod-mod from hours (length crowd))
    ∙ peak_class crowd n (from + hours)

-- a covered class counts towards the peak
pub covered : (crowd : List ℕ) (n hour k : ℕ) → k < n → crowd_at crowd (hour + k) ≤ peak crowd n hour
covered crowd zero hour k below = absurd (omega arith)
covered crowd (suc n) hour k below =
    ⊎_elim
    (λ less. omega (arith, covered crowd n hour k less))
    (λ more. let same : k ≡ n = omega arith in omega (arith, ap (λ j. crowd_at crowd (hour + j)) same))
    (cases_lt k n)

pub peak_at_most : (crowd : List ℕ) (n hour bound : ℕ) → ((k : ℕ) → k < n → crowd_at crowd (hour + k) ≤ bound) → peak crowd n hour ≤ bound
peak_at_most crowd zero hour bound each = omega arith
peak_at_most crowd (suc n) hour bound each =
    omega (arith, peak_at_most crowd n hour bound (λ k below. each k (omega arith)), each n (omega arith))

pub peak_below : (crowd : List ℕ) (n hour bound : ℕ) → 0 < bound → ((k : ℕ) → k < n → crowd_at crowd (hour + k) < bound) → peak crowd n hour < bound
peak_below crowd n hour bound positive each =
    omega (arith, peak_at_most crowd n hour (bound - 1) (λ k below. omega (arith, each k below)))

-- where no class is shown every peak is 0
pub peak_empty : (crowd : List ℕ) (n hour : ℕ) → length crowd ≡ 0 → peak crowd n hour ≡ 0
peak_empty [] n hour none = let low : peak [] n hour ≤ 0 = peak_at_most [] n hour 0 (λ k _. le_refl 0) in omega arith
peak_empty (x ∷ xs) n hour none = absurd (omega arith)

-- a duration of a period or more covers every class
pub peak_cut : (crowd : List ℕ) (n hour : ℕ) → 0 < length crowd → length crowd ≤ n → peak crowd n hour ≡ peak crowd (length crowd) hour
peak_cut crowd n hour some long =
    let upper : peak crowd n hour ≤ peak crowd (length crowd) hour = peak_at_most crowd n hour (peak crowd (length crowd) hour)
    (λ k _. omega (arith, ap (λ c. get_or crowd c 0) (add-mod-mod hour k (length crowd)), covered crowd (length crowd) hour (k % length crowd) (mod-lt k some))) in
    let lower : peak crowd (length crowd) hour ≤ peak crowd n hour = peak_at_most crowd (length crowd) hour (peak crowd n hour)
    (λ k below. covered crowd n hour k (omega arith)) in
    omega arith

-- An hour that covers a class at least so crowded has a peak at least as high, and so have all later hours up to that
-- class.
pub passed_over : (crowd : List ℕ) (n hour k bound : ℕ) → k < n → bound ≤ crowd_at crowd (hour % length crowd + k) → (h : ℕ) → hour ≤ h → h < hour + (k + 1) → bound ≤ peak crowd n h
passed_over crowd n hour k bound below high h from until =
    let same : h + (hour + k - h) ≡ hour + k = omega arith in
    let less : hour + k - h < n = omega arith in
    omega (arith, ap (λ c. get_or crowd c 0) (mod-add-mod hour (length crowd) k), ap (crowd_at crowd) same, covered crowd n h (hour + k - h) less)

-- an hour whose covered classes are all less crowded has a lower peak
pub lower_peak : (crowd : List ℕ) (n hour bound : ℕ) → 0 < bound → ((k : ℕ) → k < n → crowd_at crowd (hour % length crowd + k) < bound) → peak crowd n hour < bound
lower_peak crowd n hour bound positive each = omega (arith, peak_class crowd n hour, peak_below crowd n (hour % length crowd) bound positive each)
