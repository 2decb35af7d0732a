-- When two steps are in each other's way. Assumes nothing.
use Rattle.std.specs.Prelude.{ℕ, ◌<◌}
use Rattle.choose.specs.Classes.{Covers}
use Rattle.vessels.specs.declared.placed.Placed.{Placed}

-- Two steps share a class: some hour modulo the period is covered by both. A period of 0 has no classes.
pub record Shares (period : ℕ) (a b : Placed) : Type 0 where
  pub shared : ℕ
  pub is_class : shared < period
  pub by_one : Covers period a.start a.duration shared
  pub by_other : Covers period b.start b.duration shared
