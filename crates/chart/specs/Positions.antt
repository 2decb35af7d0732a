-- Which place of a sheet each position of a working chart stands for. Assumes nothing.
use Rattle.std.specs.Prelude.{◌≡◌, ℕ, ◌<◌, ◌≤◌, length, slice_index}
use Rattle.sheet.specs.Sheets.{RuleSheet, Present}
use Rattle.chart.specs.declared.places.Places.{Places}

-- The place at a position, and the position of a place.
abbrev pub place : Places → ℕ → ℕ
place p a = slice_index p.list a

abbrev pub position : Places → ℕ → ℕ
position p v = slice_index p.positions v

-- The sheet's places below v stand in the list, place 0 first and then by rising number.
pub record PlacesTo (s : RuleSheet) (v : ℕ) (p : Places) : Type 0 where
  pub size : length p.list ≡ 32
  pub sizes : length p.positions ≡ 32
  pub some : 0 < p.count
  pub few : p.count ≤ v
  pub first : place p 0 ≡ 0
  pub there : (a : ℕ) → a < p.count → Present s (place p a)
  pub below : (a : ℕ) → a < p.count → place p a < v
  pub rising : (a b : ℕ) → a < b → b < p.count → place p a < place p b
  -- each place has a position, and the two tables agree
  pub found : (w : ℕ) → w < v → Present s w → position p w < p.count
  pub place_of : (w : ℕ) → w < v → Present s w → place p (position p w) ≡ w
  pub position_of : (a : ℕ) → a < p.count → position p (place p a) ≡ a

-- All places of the sheet.
abbrev pub IsPlaces : RuleSheet → Places → Type 0
IsPlaces s p = PlacesTo s 32 p
