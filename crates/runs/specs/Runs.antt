-- What the trade's rules make of calls carried out one after another, from the calls' arguments alone. Assumes nothing.
use Rattle.std.specs.Prelude.{◌≡◌, ℕ, ◌+◌, List, [], ◌∷◌, ◌++◌, map, Some, None, Option}
use Rattle.book.specs.Commands.{Instruction, said}
use Rattle.merge.specs.Merging.{Merges, Readable}
use Rattle.merge.specs.declared.reports.Report.{Report}
use Rattle.planner.specs.Rules.{Outcome}
use Rattle.sheet.specs.declared.forms.Sheet.{Sheet}
use Rattle.runs.specs.declared.calls.Call.{Call}
use Rattle.runs.specs.declared.calls.Call.TheVariants as code
use Rattle.runs.specs.declared.calls.Note.{Note}
use Rattle.runs.specs.declared.calls.Note.TheVariants.{Refused, Reported}

-- A call as a value: a single command, or a merge of two books.
pub data Asked : Type 0 where
  enters : Instruction → Asked
  merges : (office tablet : List ℕ) → Asked

abbrev pub asked_by : Call → Asked
asked_by (code.Enter command) = enters (said command)
asked_by (code.Merge office tablet) = merges office.now tablet.now

-- what is noted of a single command: nothing, or its refusal
abbrev pub noted_of : ℕ → Option ℕ → List Note
noted_of call None = []
noted_of call (Some number) = Refused call number ∷ []

-- what is noted of a merge: each of its reports
abbrev pub reported_of : ℕ → List Report → List Note
reported_of call reports = map (λ report. Reported call report) reports

-- A merge of two readable books enters their commands; with a book that is too long it is refused whole by 24, which
-- leaves the sheet.
pub record MergeDone (sheet : Sheet) (office tablet : List ℕ) (call : ℕ) (after : Sheet) (notes : List Note) : Type 0 where
  pub if_readable : Readable office tablet
      → ((reports : List Report) × Merges sheet office tablet after reports × (notes ≡ reported_of call reports))
  pub if_too_long : (Readable office tablet → ⊥) → (after ≡ sheet) × (notes ≡ Refused call 24 ∷ [])

-- What comes of one call on the sheet that stands.
abbrev pub CallDone : Sheet → Asked → ℕ → Sheet → List Note → Type 0
CallDone sheet (enters i) call after notes = ((answer : Option ℕ) × Outcome sheet i answer after × (notes ≡ noted_of call answer))
CallDone sheet (merges office tablet) call after notes = MergeDone sheet office tablet call after notes

-- Calls carried out one by one, each on the sheet that the one before it has left, whether that was refused or not. They
-- are counted on from a number.
abbrev pub RunDone : Sheet → ℕ → List Asked → Sheet → List Note → Type 0
RunDone sheet call [] after notes = (after ≡ sheet) × (notes ≡ [])
RunDone sheet call (first ∷ rest) after notes =
    ((between : Sheet) × (told : List Note) × (later : List Note)
    × CallDone sheet first call between told × RunDone between (call + 1) rest after later × (notes ≡ told ++ later))
