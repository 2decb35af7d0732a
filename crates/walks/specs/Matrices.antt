-- Matrices of whole numbers over the places of a sheet. Assumes nothing.
use Rattle.std.specs.Prelude.{◌≡◌, ℕ, cond, List, ℤ, pos, ◌+ℤ◌, ◌-ℤ◌, ◌≤ℤ◌, Some, None}
use Rattle.sheet.specs.declared.forms.Link.{Link}
use Rattle.sheet.specs.Sheets.{RuleSheet, has_step, Present}
use Rattle.sheet.specs.Timetables.{Timetable}
use Rattle.sheet.specs.Links.{IsLink, Run, weight, run_weight}

abbrev pub Matrix : Type 0
Matrix = ℕ → ℕ → ℤ

-- A matrix is closed for a sheet if no link and no way by a third place asks for more than its entries say.
pub record Closed (s : RuleSheet) (d : Matrix) : Type 0 where
  pub zero_diagonal : (i : ℕ) → Present s i → d i i ≡ pos 0
  pub triangle : (i k j : ℕ) → Present s i → Present s k → Present s j → (d i k +ℤ d k j) ≤ℤ d i j
  pub above_links : (l : Link) → IsLink s l → weight s.period l ≤ℤ d l.from l.to

-- Each entry is the weight of some run of links between its places.
abbrev pub MadeOfRuns : RuleSheet → Matrix → Type 0
MadeOfRuns s d =
    (i j : ℕ) → Present s i → Present s j
    → ∥ ((ls : List Link) × Run s i j ls × (run_weight s.period ls ≡ d i j)) ∥₁

-- The timetable of a row: every step starts at its entry in the row, counted from the entry of hour zero.
abbrev pub row_timetable : RuleSheet → Matrix → ℕ → Timetable
row_timetable s d i n = cond (has_step s n) (Some (d i n -ℤ d i 0)) None
