-- What a filled and closed chart tells of its sheet. Assumes nothing.
use Rattle.std.proofs.Common.{ℕ, ◌+◌, ◌^◌, ◌<◌, ◌≤◌, List, arith, pow_mono}
use Rattle.sheet.specs.declared.forms.Link.{Link}
use Rattle.sheet.specs.Limits.{SoundSheet}
use Rattle.walks.proofs.CodeLaws.{code_below}
use Rattle.chart.specs.declared.places.Places.{Places}
use Rattle.chart.specs.Laws.{Laws}
use Rattle.chart.specs.Cells.{Made, first, over, ClosedTo}
use Rattle.chart.specs.Positions.{IsPlaces}
use Rattle.chart.specs.Runs.{MadeOf, FilledTo, Worked}
use Rattle.chart.proofs.Joining.{made_join, made_later}
use Rattle.chart.proofs.Filling.{ends_low}

module _ {E : Type 0} {neutral : E} {sum : E → E → E} {under : E → E → Type 0} {within : ℕ → E → Type 0}
    {value : ℕ → Link → E} (laws : Laws neutral sum under within value) (sound : SoundSheet) (p : Places)
    (is : IsPlaces sound.told p) (xs : List E) (filled : FilledTo neutral sum value under within sound.told p 432 xs) where
  made_of : (k a b : ℕ) (e : E) → k ≤ p.count → a < p.count → b < p.count → Made neutral sum under xs k a b e
      → MadeOf neutral sum value sound.told p k a b e
  made_of k a b e high low_a low_b (first _ _ _) =
      made_later laws sound.told p 0 k a b _ (omega arith) (filled.starts a b low_a low_b).made
  made_of k a b e high low_a low_b (over _ m _ _ x y lt to on) =
      let here = is.position_of m (omega arith) in
      made_join laws sound.told p k a m b x y (omega arith)
      (made_later laws sound.told p m k a m x (omega arith) (made_of m a m x (omega arith) low_a (omega arith) to))
      (made_later laws sound.told p m k m b y (omega arith) (made_of m m b y (omega arith) (omega arith) low_b on))

  pub worked : (k : ℕ) (ys : List E) → k ≤ p.count → ClosedTo neutral sum under within p.count k xs ys
      → Worked neutral sum value under within sound.told p k ys
  worked k ys high closed =
      let few = is.few in
      record {
        links =
            λ l link.
            let low = ends_low laws sound p is l link in
            laws.transitive _ _ _ (filled.links l link (code_below sound.told sound.sound l link))
            (closed.rises _ _ low.2 low.3);
        diagonal = closed.diagonal;
        triangle = closed.triangle;
        made = λ a b h l. made_of k a b _ high h l (closed.made a b h l);
        short =
            λ a b h l. laws.more (2 ^ (k + 1)) (2 ^ 33) _ (pow_mono {i = k + 1} {j = 33} (omega arith)) (closed.short a b h l);
      }
