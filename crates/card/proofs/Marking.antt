-- The marks show which steps the sheet has. Assumes nothing.
use Rattle.std.proofs.Common.{◌≡◌, ℕ, Bool, true, false, ◌&&◌, leb, List, length, set, replicate, is_some, None, sym, refl, ap, ◌∙◌, ⊎_elim, arith}
use Rattle.std.proofs.lemmas.List.{get_or-set_same, get_or-set_other, length-map}
use Rattle.std.proofs.lemmas.Bool.{and_parts, cases_eq, false≢true}
use Rattle.std.specs.Option.{option_map}
use Rattle.book.specs.Commands.{Instruction, add_step, remove_step, set_duration, put_after, put_within, put_at, remove_rule, set_period, set_span, set_vessels}
use Rattle.changes.proofs.Kept.{from_test, get_or_same, numbered_same}
use Rattle.changes.specs.Changes.{asked}
use Rattle.changes.specs.Tests.{from, in_limits, has, puts_in_limits}
use Rattle.sheet.proofs.Numbered.{numbered-replaced_same, numbered-replaced_other, told_some}
use Rattle.sheet.specs.Edits.{empty_sheet}
use Rattle.sheet.specs.Limits.{FullSound}
use Rattle.sheet.specs.Sheets.{without_name}
use Rattle.sheet.specs.declared.forms.Sheet.{Sheet}
use Rattle.card.specs.Marks.{marked, marks_after}

abbrev pub Shows : List Bool → Sheet → Type 0
Shows marks sheet = (n : ℕ) → marked marks n ≡ has sheet n

pub no_marks : Shows (replicate 32 false) empty_sheet
no_marks n = get_or_same 32 n false ∙ sym (told_some empty_sheet n ∙ ap is_some (numbered_same 31 n None))

-- the limits depend only on which steps are there
pub same_limits : {f g : ℕ → Bool} → ((n : ℕ) → f n ≡ g n) → (i : Instruction) → in_limits f i ≡ in_limits g i
same_limits same (add_step n duration kind name) = refl
same_limits same (remove_step n) = refl
same_limits same (set_duration n duration) = refl
same_limits same (put_after r u v gap carry) = λ i. from 1 96 r && (same u i && (same v i && (leb gap 999 && leb carry 7)))
same_limits same (put_within r u v hours) = λ i. from 1 96 r && (same u i && (same v i && leb hours 999))
same_limits same (put_at r v hour) = λ i. from 1 96 r && (same v i && leb hour 1999)
same_limits same (remove_rule r) = refl
same_limits same (set_period hours) = refl
same_limits same (set_span hours) = refl
same_limits same (set_vessels kind count) = refl

pub shows_more : (marks : List Bool) (sheet : Sheet) → length marks ≡ 32 → FullSound sheet → Shows marks sheet → (i : Instruction) → puts_in_limits sheet i ≡ true → Shows (marks_after marks i) (asked sheet i)
shows_more marks sheet long ok shows (add_step n duration kind name) fits m =
    let new = asked sheet (add_step n duration kind name) in
    let range = from_test 1 31 n (and_parts _ _ fits).0 in
    let table : length sheet.steps ≡ 31 = sym (length-map sheet.steps (option_map without_name)) ∙ ok.rules.step_count in
    ⊎_elim
    (λ same.
    ap (marked (set marks n true)) same
    ∙ get_or-set_same marks n true false (omega arith)
    ∙ sym (ap (has new) same ∙ told_some new n ∙ ap is_some (numbered-replaced_same None sheet.steps n _ (omega arith) (omega arith))))
    (λ apart. get_or-set_other marks n m true false apart ∙ shows m ∙ told_some sheet m ∙ sym (told_some new m ∙ ap is_some (numbered-replaced_other None sheet.steps n m _ apart)))
    (cases_eq m n)
shows_more marks sheet long ok shows (remove_step n) fits m = absurd (false≢true fits)
shows_more marks sheet long ok shows (set_duration n duration) fits m = absurd (false≢true fits)
shows_more marks sheet long ok shows (put_after r u v gap carry) fits m = shows m
shows_more marks sheet long ok shows (put_within r u v hours) fits m = shows m
shows_more marks sheet long ok shows (put_at r v hour) fits m = shows m
shows_more marks sheet long ok shows (remove_rule r) fits m = absurd (false≢true fits)
shows_more marks sheet long ok shows (set_period hours) fits m = shows m
shows_more marks sheet long ok shows (set_span hours) fits m = shows m
shows_more marks sheet long ok shows (set_vessels kind count) fits m = absurd (false≢true fits)
