-- What a kind of entry owes to the working chart. Assumes nothing.
use Rattle.std.specs.Prelude.{◌≡◌, ℕ, ◌+◌, ◌^◌, ◌≤◌, ◌⊎◌}
use Rattle.sheet.specs.declared.forms.Link.{Link}
use Rattle.sheet.specs.Limits.{SoundSheet}
use Rattle.sheet.specs.Links.{IsLink}

-- An entry stands for what a run of links comes to: the sum of the values of its links. A run without links comes to
-- the neutral entry. 'under x y' says that x ranks no higher than y. 'within n x' says that x is no larger, whatever
-- that means for its kind, than a sum of at most n links can be. The sum need not be commutative.
pub record Laws {E : Type 0} (neutral : E) (sum : E → E → E) (under : E → E → Type 0) (within : ℕ → E → Type 0)
    (value : ℕ → Link → E) : Type 0 where
  pub left_neutral : (x : E) → sum neutral x ≡ x
  pub right_neutral : (x : E) → sum x neutral ≡ x
  pub associative : (x y z : E) → sum (sum x y) z ≡ sum x (sum y z)
  pub reflexive : (x : E) → under x x
  pub transitive : (x y z : E) → under x y → under y z → under x z
  pub antisymmetric : (x y : E) → under x y → under y x → x ≡ y
  pub total : (x y : E) → under x y ⊎ under y x
  -- a sum preserves the order on either side
  pub behind : (x y z : E) → under y z → under (sum x y) (sum x z)
  pub before : (x y z : E) → under x y → under (sum x z) (sum y z)
  pub none : within 0 neutral
  pub more : (m n : ℕ) (x : E) → m ≤ n → within m x → within n x
  pub joined : (m n : ℕ) (x y : E) → within m x → within n y → within (m + n) (sum x y)
  -- what a link of a sound sheet counts for at the sheet's period is within one link
  pub one : (s : SoundSheet) (l : Link) → IsLink s.told l → within 1 (value s.told.period l)

-- Sums are exact inside this limit. It is far above any sum of at most 96 links, so that it holds what a chart comes to
-- before a closed run that beats the neutral entry is met.
abbrev pub limit : ℕ
limit = 2 ^ 36

-- The larger of two entries.
pub record Raised {E : Type 0} (under : E → E → Type 0) (a b r : E) : Type 0 where
  pub keeps : under a r
  pub meets : under b r
  pub one : (r ≡ a) ⊎ (r ≡ b)
