-- The number of each refusal of a whole merge. Assumes nothing.
use Rattle.std.specs.Prelude.{ℕ}
use Rattle.merge.specs.declared.refusals.MergeRefusal.{MergeRefusal}
use Rattle.merge.specs.declared.refusals.MergeRefusal.TheVariants.{TooLong, TooShort}

abbrev pub merge_number : MergeRefusal → ℕ
merge_number TooLong = 24
merge_number TooShort = 30
