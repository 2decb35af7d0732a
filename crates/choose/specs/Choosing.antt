-- Rules for choosing an hour, and the three that the planner has. Assumes nothing.
use Rattle.std.specs.Prelude.{◌≡◌, ℕ, ◌-◌, ◌<◌, ◌≤◌, max, refl}
use Rattle.std.proofs.Common.{le_refl, arith}
use Rattle.choose.specs.Bounds.{calmest_from, calmest_to}
use Rattle.choose.specs.Calmest.{least_crowded_hour, peak_in}
use Rattle.choose.specs.Views.{View}

-- An hour for whatever is shown. It is never before the first hour of the window nor after the last, and it is the
-- first where the last lies before it.
pub record HourRule : Type 0 where
  pub hour : View → ℕ
  pub not_before : (v : View) → v.first ≤ hour v
  pub not_after : (v : View) → v.first ≤ v.last → hour v ≤ v.last
  pub no_window : (v : View) → v.last < v.first → hour v ≡ v.first

-- the first hour of the window
abbrev pub earliest : HourRule
earliest = record {
  hour = λ v. v.first;
  not_before = λ v. le_refl v.first;
  not_after = λ v ordered. ordered;
  no_window = λ v _. refl;
}

-- the last hour of the window, or the first where the last lies before it
abbrev pub latest : HourRule
latest = record {
  hour = λ v. max v.first v.last;
  not_before = λ v. omega arith;
  not_after = λ v ordered. omega arith;
  no_window = λ v turned. omega arith;
}

-- the hour of the window whose covered classes have the smallest peak, the earliest at a tie
abbrev pub least_crowded : HourRule
least_crowded = record {
  hour = least_crowded_hour;
  not_before = λ v. calmest_from (peak_in v) v.first (v.last - v.first);
  not_after = λ v ordered. omega (arith, calmest_to (peak_in v) v.first (v.last - v.first));
  no_window = λ v turned. omega (arith, calmest_from (peak_in v) v.first (v.last - v.first), calmest_to (peak_in v) v.first (v.last - v.first));
}
