-- There is one outcome of giving out vessels. Assumes nothing.
use Rattle.std.proofs.Common.{◌≡◌, ℕ, ◌+◌, ◌<◌, List, get_or, Option, sym, ap, ◌∙◌, ⊎_elim, arith}
use Rattle.std.proofs.lemmas.List.{ext_get_or}
use Rattle.std.proofs.lemmas.Bool.{cases_order}
use Rattle.vessels.specs.Vessels.{Numbered, Without, Outcome, all, missing, AllNumbered, FirstMissing, GivesOut}
use Rattle.vessels.specs.declared.placed.Placed.{Placed}
use Rattle.vessels.proofs.Agreement.{agreed, taken_by}

module _ {period : ℕ} {stock : List ℕ} {placed : List (Option Placed)} where
  -- a step that finds no vessel never has one
  never_both : (place : ℕ) (numbers others : List ℕ) → ((i : ℕ) → i < place → Numbered period stock placed numbers i) → Without period stock placed numbers place → ((i : ℕ) → i < place + 1 → Numbered period stock placed others i) → ⊥
  never_both place numbers others lower w each =
      let got = (each place (omega arith)).if_present w.step w.present in
      let same = agreed place numbers others lower (λ i below. each i (omega arith)) in
      got.free (taken_by place w.step (get_or others place 0) numbers others same (w.none (get_or others place 0) got.from_one got.in_stock))

  same_missing : (p q : ℕ) → FirstMissing period stock placed p → FirstMissing period stock placed q → p ≡ q
  same_missing p q x y =
      ⊎_elim
      (λ same. x.is_at ∙ ap (λ n. n + 1) same ∙ sym y.is_at)
      (⊎_elim
      (λ less. absurd (never_both x.place x.numbers y.numbers x.lower x.without (λ i below. y.lower i (omega arith))))
      (λ more. absurd (never_both y.place y.numbers x.numbers y.lower y.without (λ i below. x.lower i (omega arith)))))
      (cases_order x.place y.place)

  not_both : (numbers : List ℕ) (step : ℕ) → AllNumbered period stock placed numbers → FirstMissing period stock placed step → ⊥
  not_both numbers step x y = never_both y.place y.numbers numbers y.lower y.without (λ i below. x.each i (omega (arith, y.is_step)))

pub outcome_only : (period : ℕ) (stock : List ℕ) (placed : List (Option Placed)) (a b : Outcome) → GivesOut period stock placed a → GivesOut period stock placed b → a ≡ b
outcome_only period stock placed (all a) (all b) x y =
    let same = agreed 31 a b x.each y.each in
    ap all (ext_get_or 0 a b (x.long ∙ sym y.long) (λ i below. same i (omega (arith, x.long))))
outcome_only period stock placed (all a) (missing q) x y = absurd (not_both a q x y)
outcome_only period stock placed (missing p) (all b) x y = absurd (not_both b p y x)
outcome_only period stock placed (missing p) (missing q) x y = ap missing (same_missing p q x y)
