-- Runs of links and what they come to. Assumes nothing.
use Rattle.std.proofs.Common.{◌≡◌, ℕ, ◌≤◌, List, [], ◌∷◌, ◌++◌, sym, ap, ◌∙◌, subst, arith}
use Rattle.sheet.specs.declared.forms.Link.{Link}
use Rattle.sheet.specs.Sheets.{RuleSheet}
use Rattle.sheet.specs.Links.{IsLink, Run}
use Rattle.walks.proofs.RunLaws.{run_join}
use Rattle.chart.specs.declared.places.Places.{Places}
use Rattle.chart.specs.Laws.{Laws}
use Rattle.chart.specs.Positions.{place}
use Rattle.chart.specs.Runs.{Through, Processed, worth, MadeOf}

pub through_join : (P : ℕ → Type 0) (s : RuleSheet) (i k : ℕ) (xs ys : List Link) → Run s i k xs → P k
    → Through P xs → Through P ys → Through P (xs ++ ys)
through_join P s i k [] ys run here p q = q
through_join P s i k (l ∷ []) [] run here p q = tt
through_join P s i k (l ∷ []) (y ∷ ys) run here p q = (subst P (sym run.2) here, q)
through_join P s i k (l ∷ m ∷ xs) ys run here p q = (p.0, through_join P s l.to k (m ∷ xs) ys run.2 here p.1 q)

pub through_more : (P Q : ℕ → Type 0) → ((v : ℕ) → P v → Q v) → (ls : List Link) → Through P ls → Through Q ls
through_more P Q f [] p = tt
through_more P Q f (l ∷ []) p = tt
through_more P Q f (l ∷ m ∷ ls) p = (f l.to p.0, through_more P Q f (m ∷ ls) p.1)

module _ {E : Type 0} {neutral : E} {sum : E → E → E} {under : E → E → Type 0} {within : ℕ → E → Type 0}
    {value : ℕ → Link → E} (laws : Laws neutral sum under within value) where
  pub worth_join : (period : ℕ) (xs ys : List Link)
      → worth neutral sum value period (xs ++ ys) ≡ sum (worth neutral sum value period xs) (worth neutral sum value period ys)
  worth_join period [] ys = sym (laws.left_neutral (worth neutral sum value period ys))
  worth_join period (l ∷ xs) ys =
      ap (sum (value period l)) (worth_join period xs ys)
      ∙ sym (laws.associative (value period l) (worth neutral sum value period xs) (worth neutral sum value period ys))

  module _ (s : RuleSheet) (p : Places) where
    pub made_link : (k a b : ℕ) (l : Link) → IsLink s l → l.from ≡ place p a → l.to ≡ place p b
        → MadeOf neutral sum value s p k a b (value s.period l)
    made_link k a b l link from to =
        record { run = l ∷ []; joins = (from, link, to); inner = tt; comes = laws.right_neutral (value s.period l) }

    pub made_join : (k a m b : ℕ) (e f : E) → Processed p k (place p m) → MadeOf neutral sum value s p k a m e
        → MadeOf neutral sum value s p k m b f → MadeOf neutral sum value s p k a b (sum e f)
    made_join k a m b e f here to on =
        record {
          run = to.run ++ on.run;
          joins = run_join s (place p a) (place p m) (place p b) to.run on.run to.joins on.joins;
          inner =
              through_join (Processed p k) s (place p a) (place p m) to.run on.run to.joins here to.inner on.inner;
          comes =
              worth_join s.period to.run on.run
              ∙ ap (sum (worth neutral sum value s.period to.run)) on.comes
              ∙ ap (λ x. sum x f) to.comes;
        }

    pub made_later : (k l a b : ℕ) (e : E) → k ≤ l → MadeOf neutral sum value s p k a b e → MadeOf neutral sum value s p l a b e
    made_later k l a b e h made =
        record {
          run = made.run;
          joins = made.joins;
          inner = through_more (Processed p k) (Processed p l) (λ v low. omega arith) made.run made.inner;
          comes = made.comes;
        }
