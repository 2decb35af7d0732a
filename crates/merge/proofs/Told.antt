-- The reports of a merge, read back from the front of their buffer. Assumes nothing.
use Rattle.std.proofs.Common.{◌≡◌, ℕ, ◌≤◌, List, length, take, drop, sym, ap, ◌∙◌, arith, length-append}
use Rattle.std.proofs.lemmas.List.{take_at}
use Rattle.sheet.specs.declared.forms.Sheet.{Sheet}
use Rattle.merge.specs.Merging.{Buffers, Done}

module _ (sheet : Sheet) (office tablet : List ℕ) (before : Buffers) (count : ℕ) (after_sheet : Sheet) (after : Buffers) (done : Done sheet office tablet before count after_sheet after) where
  pub inside : count ≤ length after.reports
  inside =
      let sum = ap length done.written ∙ length-append done.told (drop count before.reports) in
      let counted = done.counted in
      omega arith

  pub front : take count after.reports ≡ done.told
  front = ap (take count) done.written ∙ take_at done.told (drop count before.reports) count (sym done.counted)
