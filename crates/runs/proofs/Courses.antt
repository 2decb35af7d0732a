-- Calls carried out one after another. Assumes nothing.
use Rattle.std.proofs.Common.{◌≡◌, ℕ, ◌+◌, ◌<◌, List, [], ◌∷◌, ◌++◌, map, length, get_or, take, sym, refl, ap, ◌∙◌, subst, ⊎_elim, arith}
use Rattle.std.proofs.lemmas.List.{append-nil, append_assoc, map-append, take_more, take_all, length-map, length-take-le}
use Rattle.std.proofs.lemmas.Bool.{cases_lt}
use Rattle.merge.proofs.Only.{outcome_only, merges_only}
use Rattle.merge.specs.Merging.{Readable}
use Rattle.sheet.specs.Edits.{empty_sheet}
use Rattle.sheet.specs.declared.forms.Sheet.{Sheet}
use Rattle.runs.specs.Runs.{Asked, enters, merges, asked_by, noted_of, reported_of, MergeDone, CallDone, RunDone}
use Rattle.runs.specs.Turns.{CallTaken, Running, RunTaken}
use Rattle.runs.specs.declared.calls.Call.{Call}
use Rattle.runs.specs.declared.calls.Note.{Note}

-- one call more at the end
run_more : (sheet : Sheet) (call : ℕ) (calls : List Asked) (between : Sheet) (told : List Note) → RunDone sheet call calls between told → (asked : Asked) (after : Sheet) (more : List Note) → CallDone between asked (call + length calls) after more → RunDone sheet call (calls ++ (asked ∷ [])) after (told ++ more)
run_more sheet call [] between told run asked after more done =
    let place : call + 0 ≡ call = omega arith in
    let here = subst (λ k. CallDone between asked k after more) place done in
    (after, more, [], subst (λ s. CallDone s asked call after more) run.0 here, (refl, refl), ap (λ xs. xs ++ more) run.1 ∙ sym (append-nil more))
run_more sheet call (first ∷ calls) between told run asked after more done =
    let next = run.0 in
    let place : call + length (first ∷ calls) ≡ call + 1 + length calls = omega arith in (
      next,
      run.1,
      run.2 ++ more,
      run.3,
      run_more next (call + 1) calls between run.2 run.4 asked after more (subst (λ k. CallDone between asked k after more) place done),
      ap (λ xs. xs ++ more) run.5 ∙ append_assoc run.1 run.2 more,
    )

pub begun : (sheet : Sheet) (calls : List Call) (before : List Note) → Running sheet calls before 0 sheet before
begun sheet calls before = record { told = []; done = (refl, refl); added = sym (append-nil before) }

pub turned : (sheet : Sheet) (calls : List Call) (before : List Note) (k : ℕ) (sheet_now : Sheet) (notes : List Note) → Running sheet calls before k sheet_now notes → (d : Call) → k < length calls → (after : Sheet) (notes_after : List Note) → CallTaken sheet_now (asked_by (get_or calls k d)) k notes notes_after after → Running sheet calls before (k + 1) after notes_after
turned sheet calls before k sheet_now notes known d low after notes_after taken =
    let long : length (map asked_by (take k calls)) ≡ k = length-map (take k calls) asked_by ∙ length-take-le k calls (omega arith) in
    let place : 0 + length (map asked_by (take k calls)) ≡ k = omega arith in
    record {
      told = known.told ++ taken.told;
      done = subst (λ cs. RunDone sheet 0 cs after (known.told ++ taken.told)) (sym (map-append asked_by (take k calls) (get_or calls k d ∷ [])) ∙ ap (map asked_by) (sym (take_more calls k d low)))
          (run_more sheet 0 (map asked_by (take k calls)) sheet_now known.told known.done (asked_by (get_or calls k d)) after taken.told (subst (λ n. CallDone sheet_now (asked_by (get_or calls k d)) n after taken.told) (sym place) taken.done));
      added = taken.added ∙ ap (λ xs. xs ++ taken.told) known.added ∙ append_assoc before known.told taken.told;
    }

-- the rules make one thing only of a call, and of a run
merge_only : (sheet : Sheet) (office tablet : List ℕ) (call : ℕ) (x y : Sheet) (told said : List Note) → MergeDone sheet office tablet call x told → MergeDone sheet office tablet call y said → (x ≡ y) × (told ≡ said)
merge_only sheet office tablet call x y told said p q =
    ⊎_elim (λ long. too_long (λ readable. let h = readable.office_short in omega arith))
    (λ office_short. ⊎_elim (λ long. too_long (λ readable. let h = readable.tablet_short in omega arith)) (λ tablet_short. short (record { office_short = office_short; tablet_short = tablet_short })) (cases_lt 4096 (length tablet)))
    (cases_lt 4096 (length office))
  where
    too_long : (Readable office tablet → ⊥) → (x ≡ y) × (told ≡ said)
    too_long no_way = let a = p.if_too_long no_way in let b = q.if_too_long no_way in (a.0 ∙ sym b.0, a.1 ∙ sym b.1)

    short : Readable office tablet → (x ≡ y) × (told ≡ said)
    short readable =
        let a = p.if_readable readable in
        let b = q.if_readable readable in
        let same = merges_only sheet office tablet y x b.0 a.0 b.1 a.1 in
        (same.0, a.2 ∙ ap (reported_of call) same.1 ∙ sym b.2)

call_only : (sheet : Sheet) (asked : Asked) (call : ℕ) (x y : Sheet) (told said : List Note) → CallDone sheet asked call x told → CallDone sheet asked call y said → (x ≡ y) × (told ≡ said)
call_only sheet (enters i) call x y told said p q =
    let same = outcome_only sheet i p.0 q.0 x y p.1 q.1 in (same.1, p.2 ∙ ap (noted_of call) same.0 ∙ sym q.2)
call_only sheet (merges office tablet) call x y told said p q = merge_only sheet office tablet call x y told said p q

run_only : (sheet : Sheet) (call : ℕ) (calls : List Asked) (x y : Sheet) (told said : List Note) → RunDone sheet call calls x told → RunDone sheet call calls y said → (x ≡ y) × (told ≡ said)
run_only sheet call [] x y told said p q = (p.0 ∙ sym q.0, p.1 ∙ sym q.1)
run_only sheet call (first ∷ calls) x y told said p q =
    let same = call_only sheet first call p.0 q.0 p.1 q.1 p.3 q.3 in
    let later = run_only q.0 (call + 1) calls x y p.2 q.2 (subst (λ s. RunDone s (call + 1) calls x p.2) same.0 p.4) q.4 in
    (later.0, p.5 ∙ ap (λ xs. xs ++ p.2) same.1 ∙ ap (λ xs. q.1 ++ xs) later.1 ∙ sym q.5)

pub run_taken : (sheet : Sheet) (calls : List Call) (before : List Note) (after : Sheet) (notes : List Note) → sheet ≡ empty_sheet → before ≡ [] → Running sheet calls before (length calls) after notes → RunTaken (map asked_by calls) after notes
run_taken sheet calls before after notes empty none running =
    let told : running.told ≡ notes = sym (running.added ∙ ap (λ xs. xs ++ running.told) none) in
    let whole = ap (map asked_by) (take_all (length calls) calls (omega arith)) in
    let done : RunDone empty_sheet 0 (map asked_by calls) after notes =
    subst (λ s. RunDone s 0 (map asked_by calls) after notes) empty
    (subst (λ cs. RunDone sheet 0 cs after notes) whole (subst (λ ns. RunDone sheet 0 (map asked_by (take (length calls) calls)) after ns) told running.done)) in
    record { done = done; only = λ other others others_run. run_only empty_sheet 0 (map asked_by calls) other after others notes others_run done }
