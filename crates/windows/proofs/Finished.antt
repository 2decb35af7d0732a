-- When every step is placed, the starts placed are a lawful timetable. Assumes nothing.
use Rattle.std.proofs.Common.{◌≡◌, ℕ, zero, suc, true, ℤ, pos, is_some, Some, None, Option, unwrap_or, sym, refl, ap, ◌∙◌, ⊎_elim, arith}
use mathlib.Core.Logic.{∥∥₁_elim}
use Rattle.std.proofs.lemmas.Int.{ints}
use Rattle.std.proofs.lemmas.Bool.{cases_Bool, true≢false, false≢true}
use Rattle.sheet.specs.declared.forms.Link.{Link}
use Rattle.sheet.specs.Limits.{Sound}
use Rattle.sheet.specs.Links.{IsLink, Keeps}
use Rattle.sheet.specs.Sheets.{RuleSheet, has_step, HasStep, Present}
use Rattle.sheet.specs.Timetables.{Timetable, start, Covers, Lawful}
use Rattle.walks.proofs.LinkLaws.{links_hold, lawful_from_links, link_ends}
use Rattle.walks.proofs.Orders.{le_prop}
use Rattle.windows.specs.Windows.{Agrees}
use Rattle.windows.proofs.Narrowing.{agreed_start, placed_on_sheet}

pub the_hour : (o : Option ℤ) → is_some o ≡ true → (hour : ℤ) × (o ≡ Some hour)
the_hour None e = absurd (false≢true e)
the_hour (Some hour) e = (hour, refl)

module _ (s : RuleSheet) (ok : Sound s) (placed : Timetable) (some : ∥ ((t : Timetable) × Lawful s t × Agrees placed t) ∥₁) (all : (n : ℕ) → HasStep s n → is_some (placed n) ≡ true) where
  covers : Covers s placed
  covers n =
      ⊎_elim
      (λ given. let hour = the_hour (placed n) given in given ∙ sym (placed_on_sheet s placed some n hour.0 hour.1))
      (λ none. ⊎_elim (λ there. absurd (true≢false (sym (all n there) ∙ none))) (λ absent. none ∙ sym absent) (cases_Bool (has_step s n)))
      (cases_Bool (is_some (placed n)))

  same_start : (t : Timetable) → Lawful s t → Agrees placed t → (n : ℕ) → Present s n → start t n ≡ start placed n
  same_start t lawful agrees zero there = refl
  same_start t lawful agrees (suc n) there =
      let hour = the_hour (placed (suc n)) (all (suc n) there) in
      agreed_start s placed t lawful agrees (suc n) hour.0 hour.1 ∙ sym (ap (λ o. unwrap_or o (pos 0)) hour.1)

  keeps : (l : Link) → IsLink s l → Keeps s placed l
  keeps l link =
      let ends = link_ends s ok l link in
      ∥∥₁_elim some (le_prop _ _)
      (λ way.
      let kept = links_hold s way.0 way.1 l link in
      let first = same_start way.0 way.1 way.2 l.from ends.0 in
      let last = same_start way.0 way.1 way.2 l.to ends.1 in
      omega (arith, ints))

  pub finished_lawful : Lawful s placed
  finished_lawful = lawful_from_links s placed covers keeps
