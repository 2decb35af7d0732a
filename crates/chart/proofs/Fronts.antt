-- A chart at the front of a longer buffer. Assumes nothing.
use Rattle.std.proofs.Common.{◌≡◌, ℕ, ◌≤◌, List, ◌++◌, length, take, drop, Ok, Err, Result, sym, ap, ◌∙◌, subst, arith}
use Rattle.std.proofs.lemmas.List.{take-append-le}
use Rattle.std.proofs.lemmas.Slice.{drop-append-drop}
use Rattle.sheet.specs.declared.forms.Link.{Link}
use Rattle.sheet.specs.Sheets.{RuleSheet}
use Rattle.chart.specs.declared.places.Places.{Places}
use Rattle.chart.specs.declared.places.Stop.{Stop}
use Rattle.chart.specs.declared.places.Stop.TheVariants.{Short, Beaten}
use Rattle.chart.specs.Laws.{Laws}
use Rattle.chart.specs.Runs.{Answered, AtFront, WorkedOut}
use lib.Seq.{take-length}

the_front : {E : Type 0} (ys zs : List E) → length ys ≡ 1024 → take 1024 (ys ++ zs) ≡ ys
the_front ys zs size = take-append-le 1024 ys zs (omega arith) ∙ ap (λ n. take n ys) (sym size) ∙ take-length ys

module _ {E : Type 0} {neutral : E} {sum : E → E → E} {under : E → E → Type 0} {within : ℕ → E → Type 0}
    {value : ℕ → Link → E} (laws : Laws neutral sum under within value) (s : RuleSheet) (xs ys : List E)
    (room : 1024 ≤ length xs) (size : length ys ≡ 1024) where
  in_front : (r : Result Places Stop) → Answered neutral sum value under within s ys r
      → AtFront neutral sum value under within s xs (ys ++ drop 1024 xs) r
  in_front r answer = record {
    room = room;
    chart = subst (λ zs. Answered neutral sum value under within s zs r) (sym (the_front ys (drop 1024 xs) size)) answer;
    rest = drop-append-drop 1024 xs ys 1024 (omega arith) size;
  }

  pub worked_in_front : (r : Result Places Stop) → Answered neutral sum value under within s ys r
      → WorkedOut neutral sum value under within s xs (ys ++ drop 1024 xs) r
  worked_in_front (Ok p) answer = in_front (Ok p) answer
  worked_in_front (Err Short) answer = absurd answer
  worked_in_front (Err (Beaten p k)) answer = in_front (Err (Beaten p k)) answer
