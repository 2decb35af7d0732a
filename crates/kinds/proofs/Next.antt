-- Walking along links that account for an entry of hours with links: the count of links falls by one with each. Assumes
-- nothing.
use Rattle.std.proofs.Common.{◌≡◌, ℕ, ◌+◌, ◌<◌, ◌≤◌, ◌⊎◌, List, [], ◌∷◌, length, pos, ◌≤ℤ◌, sym, refl, ap, ◌∙◌, inl, inr, ⊎_elim, arith}
use Rattle.std.proofs.lemmas.Bool.{cases_lt}
use Rattle.sheet.specs.declared.forms.Link.{Link}
use Rattle.sheet.specs.Sheets.{RuleSheet}
use Rattle.sheet.specs.Limits.{SoundSheet}
use Rattle.sheet.specs.Links.{IsLink, Run}
use Rattle.chart.specs.declared.places.Places.{Places}
use Rattle.chart.specs.Cells.{at}
use Rattle.chart.specs.Positions.{place, position, IsPlaces}
use Rattle.chart.specs.Runs.{worth, Worked}
use Rattle.chart.proofs.Accounts.{Account, accounted, same_position, stops_later}
use Rattle.kinds.specs.declared.together.Counted.{Counted}
use Rattle.kinds.specs.Together.{no_link, counted_sum, RanksUnder, CountedWithin, one_link, counted_laws}
use Rattle.kinds.proofs.Weighing.{hours_together}

pub worth_links : (period : ℕ) (ls : List Link) → (worth no_link counted_sum one_link period ls).links ≡ length ls
worth_links period [] = refl
worth_links period (l ∷ ls) = let h = worth_links period ls in omega arith

-- The link l is the first of a way from position a to position b that comes to the entry exactly.
pub record NextLink (s : RuleSheet) (p : Places) (k a b : ℕ) (xs : List Counted) (l : Link) : Type 0 where
  pub link : IsLink s l
  pub begins : l.from ≡ place p a
  -- it ends at b and is the whole way; or it leads to a processed position, and the rest has one link less
  pub goes : ((l.to ≡ place p b) × (one_link s.period l ≡ at no_link xs a b))
      ⊎ ((position p l.to < k)
      × (counted_sum (one_link s.period l) (at no_link xs (position p l.to) b) ≡ at no_link xs a b)
      × ((at no_link xs (position p l.to) b).links + 1 ≡ (at no_link xs a b).links))

module _ (sound : SoundSheet) (p : Places) (is : IsPlaces sound.told p) (k : ℕ) (xs : List Counted)
    (chart : Worked no_link counted_sum one_link RanksUnder CountedWithin sound.told p k xs) where
  -- an entry without a link is that of a place to itself
  pub no_links : (a b : ℕ) → a < p.count → b < p.count → (at no_link xs a b).links ≡ 0 → (a ≡ b) × (at no_link xs a b ≡ no_link)
  no_links a b low_a low_b none =
      let made = chart.made a b low_a low_b in
      let count : length made.run ≡ 0
      = sym (worth_links sound.told.period made.run) ∙ ap (λ x. x.links) made.comes ∙ none in
      empty made.run count made.joins made.comes
    where
      empty : (ls : List Link) → length ls ≡ 0 → Run sound.told (place p a) (place p b) ls
          → worth no_link counted_sum one_link sound.told.period ls ≡ at no_link xs a b → (a ≡ b) × (at no_link xs a b ≡ no_link)
      empty [] count run comes = (same_position counted_laws sound p is a b low_a low_b run, sym comes)
      empty (l ∷ ls) count run comes = absurd (omega arith)

  counts : (a b : ℕ) (l : Link) → Account no_link counted_sum one_link sound.told p k a b xs l → NextLink sound.told p k a b xs l
  counts a b l account =
      record {
        link = account.link;
        begins = account.begins;
        goes =
            ⊎_elim (λ whole. inl whole)
            (λ rest. let e = ap (λ (x : Counted). x.links) rest.1 in inr (rest.0, rest.1, omega arith)) account.goes;
      }

  pub next_link : (a b : ℕ) → 0 < k → a < p.count → b < p.count → 0 < (at no_link xs a b).links
      → (l : Link) × NextLink sound.told p k a b xs l
  next_link a b h low_a low_b some =
      ⊎_elim (λ none. let e = ap (λ (x : Counted). x.links) none.1 in absurd (omega arith))
      (λ found. (found.0, counts a b found.0 found.1))
      (accounted counted_laws sound p is k xs chart a b h low_a low_b)

  -- a chart that stopped at position k: place 0 is processed, and the entry of k to itself has a link and an hour
  module _ (low : k < p.count) (beats : RanksUnder (at no_link xs k k) no_link → ⊥) where
    pub stop_later : 0 < k
    stop_later = stops_later counted_laws sound p is k xs chart low beats

    pub stop_hours : pos 1 ≤ℤ (at no_link xs k k).hours
    stop_hours = hours_together.beaten (at no_link xs k k) beats

    pub stop_links : 0 < (at no_link xs k k).links
    stop_links =
        ⊎_elim (λ (h : 0 < (at no_link xs k k).links). h)
        (λ (h : (at no_link xs k k).links ≤ 0).
        let none = no_links k k low low (omega arith) in
        absurd (beats (inr (ap (λ (x : Counted). x.hours) none.1, omega arith))))
        (cases_lt 0 (at no_link xs k k).links)
