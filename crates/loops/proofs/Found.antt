-- Links that account for an entry, sought by their codes. Assumes nothing.
use Rattle.std.proofs.Common.{◌≡◌, ℕ, ◌+◌, ◌<◌, Bool, true, false, List, IsTrue, ◌↔◌, IfSome, IsSomeAnd, Some, None, Option, sym, refl, ap, ◌∙◌, subst, arith}
use denote.Param.Members.{Mut, Called}
use Rattle.std.proofs.lemmas.Bool.{false≢true}
use Rattle.std.proofs.iter.Yields.{nat_range_steps}
use Rattle.std.proofs.iter.runs.Sources.{range_runs}
use Rattle.std.specs.Bool.{then_some}
use Rattle.std.specs.Option.{option_map, MatchOption}
use Rattle.std.specs.Iterator.Runs.{Run, AllItemsGive, IsFirstToGive, ItemsCountUp}
use Rattle.chart.specs.declared.places.Places.{Places}
use Rattle.kinds.specs.declared.together.Counted.{Counted}
use Rattle.sheet.specs.Limits.{SoundSheet}
use Rattle.sheet.specs.Links.{IsLink}
use Rattle.sheet.specs.declared.forms.Link.{Link}
use Rattle.walks.proofs.CodeLaws.{codes_apart}
use Rattle.loops.specs.Steps.{Accounts, FoundAt, FoundBelow}

module _ (sheet : SoundSheet) (p : Places) (k a : ℕ) (xs : List Counted) where
  pub found_none : (code : ℕ) → ((l : Link) → IsLink sheet.told l → l.code ≡ code → ⊥)
      → (r : Option Link) → r ≡ None → FoundAt sheet.told p k a xs code r
  found_none code none r is =
      subst (FoundAt sheet.told p k a xs code) (sym is) (λ l link same account. none l link same)

  -- the one link with a code, tried
  tried : (code : ℕ) (l : Link) → IsLink sheet.told l → l.code ≡ code → (b : Bool)
      → (IsTrue b ↔ Accounts sheet.told.period p k a xs l) → FoundAt sheet.told p k a xs code (then_some b l)
  tried code l link same true tells = (link, tells.0 refl)
  tried code l link same false tells =
      λ m other has account.
      let one = codes_apart sheet.told sheet.sound m l other link (has ∙ sym same) in
      false≢true (tells.1 (subst (Accounts sheet.told.period p k a xs) one account))

  pub found_at : (code : ℕ) (l : Link) → IsLink sheet.told l → l.code ≡ code → (b : Bool)
      → (IsTrue b ↔ Accounts sheet.told.period p k a xs l) → (r : Option Link) → r ≡ then_some b l
      → FoundAt sheet.told p k a xs code r
  found_at code l link same b tells r is =
      subst (FoundAt sheet.told p k a xs code) (sym is) (tried code l link same b tells)

  -- a closure that tries one code
  module _ {F : Type 0} (g : Mut F (ℕ × Unit {0}) (Option Link)) (f : F)
      (tries : (code : ℕ) (r : Option Link) (q : F) → Called g f (code, tt) r q
      → (q ≡ f) × FoundAt sheet.told p k a xs code r) where
    gives : (o : Option ℕ) (r : Option Link) → IsSomeAnd o (λ x. Called g f (x, tt) r f)
        → (code : ℕ) × FoundAt sheet.told p k a xs code r
    gives None r none = absurd none
    gives (Some code) r called = (code, (tries code r f called).1)

    misses : (o : Option ℕ) (code : ℕ) → option_map (λ y. y) o ≡ Some code
        → IfSome o (λ x. Called g f (x, tt) None f) → FoundAt sheet.told p k a xs code None
    misses None code is called = cc
    misses (Some x) code is called =
        let same : x ≡ code = cc in
        subst (λ n. FoundAt sheet.told p k a xs n None) same (tries x None f called).1

    pub found_below : (run : Run nat_range_steps) → run.from ≡ record { start = 0; end = 432 } → (r : Option Link)
        → MatchOption r (IsTrue run.whole × AllItemsGive run g f None)
        (λ l. (i : ℕ) × (i < run.len) × (run.len ≡ i + 1) × IsFirstToGive run g f (Some l) None i)
        → FoundBelow sheet.told p k a xs 432 r
    found_below run from None all =
        λ l link low account.
        let counts = subst (λ range. ItemsCountUp run range.start range.end) from (range_runs run run.seen) in
        let long = counts.1 all.0 in
        let here : option_map (λ y. y) (run.at l.code) ≡ Some l.code = counts.3 l.code (omega arith) ∙ ap Some (omega arith) in
        misses (run.at l.code) l.code here (all.1 (λ x r q called. (tries x.0 r q called).0) l.code) l link refl account
    found_below run from (Some l) first =
        (gives (run.at first.0) (Some l) (first.3 (λ x r q called. (tries x.0 r q called).0)).0).1
