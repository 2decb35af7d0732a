-- The cellar's worked example: mash, ferment and crop, one after the other, and the cropped yeast ready for the
-- fermentation two brews later. Assumes nothing.
use Rattle.std.specs.Prelude.{ℕ, List, [], ◌∷◌, replicate, Some, None, Option, codes}
use Rattle.sheet.specs.declared.forms.Rule.TheVariants.{Free, After, Within}
use Rattle.sheet.specs.declared.forms.Step.{Step}
use Rattle.sheet.specs.declared.forms.Sheet.{Sheet}
use Rattle.sheet.specs.Edits.{empty_sheet, with_step, with_rule}
use Rattle.sheet.specs.Sheets.{RuleSheet, rule_sheet}
use Rattle.vessels.specs.declared.placed.Placed.{Placed}
use Rattle.windows.specs.Placing.{placed_at}

abbrev pub mash : Step
mash = record { duration = 6; kind = 0; name = codes "MASH    " }

abbrev pub ferment : Step
ferment = record { duration = 20; kind = 1; name = codes "FERMENT " }

abbrev pub crop : Step
crop = record { duration = 4; kind = 2; name = codes "CROP    " }

-- One vessel of each of the kinds 0, 1 and 2.
abbrev pub one_of_each : List ℕ
one_of_each = 1 ∷ 1 ∷ 1 ∷ 0 ∷ 0 ∷ 0 ∷ 0 ∷ 0 ∷ []

-- A brew a day, each within 60 hours.
abbrev pub full_brew : Sheet
full_brew =
    record {
      steps = Some mash ∷ Some ferment ∷ Some crop ∷ replicate 28 None;
      rules = After 1 2 0 0 ∷ After 2 3 0 0 ∷ After 3 2 2 2 ∷ replicate 93 Free;
      period = 24;
      span = 60;
      stock = one_of_each;
    }

abbrev pub brew : RuleSheet
brew = rule_sheet full_brew

-- The same with rule 4: the crop starts at most so many hours after the mash.
abbrev pub brew_within : ℕ → RuleSheet
brew_within hours = rule_sheet (with_rule full_brew 4 (Within 1 3 hours))

-- The same with a step 4 that takes so many hours of a vessel of the ferment's kind.
abbrev pub brew_beside : ℕ → RuleSheet
brew_beside hours = rule_sheet (with_step full_brew 4 (Some (record { duration = hours; kind = 1; name = codes "STARTER " })))

-- A sheet without steps and rules.
abbrev pub no_brew : RuleSheet
no_brew = rule_sheet empty_sheet

-- Mash, ferment and crop at the hours 0, 6 and 26, and what is said of step 4 and all that follow.
abbrev pub started : List (Option Placed) → List (Option Placed)
started more = Some (placed_at 0 6 0) ∷ Some (placed_at 6 20 1) ∷ Some (placed_at 26 4 2) ∷ more

-- Vessel 1 for each of them, and numbers for all steps that follow.
abbrev pub in_first_vessels : List ℕ → List ℕ
in_first_vessels more = 1 ∷ 1 ∷ 1 ∷ more
