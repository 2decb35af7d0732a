-- The sheet that the program shows: mash, ferment and crop, one after the other, and the cropped yeast ready for the
-- fermentation two brews later. Assumes nothing.
use Rattle.std.specs.Prelude.{◌∷◌, replicate, Some, None, codes}
use Rattle.sheet.specs.declared.forms.Rule.TheVariants.{Free, After}
use Rattle.sheet.specs.declared.forms.Step.{Step}
use Rattle.sheet.specs.declared.forms.Sheet.{Sheet}

abbrev pub mash : Step
mash = record { duration = 6; kind = 0; name = codes "MASH    " }

abbrev pub ferment : Step
ferment = record { duration = 20; kind = 1; name = codes "FERMENT " }

abbrev pub crop : Step
crop = record { duration = 4; kind = 2; name = codes "CROP    " }

abbrev pub three_steps : Sheet
three_steps =
    record {
      steps = Some mash ∷ Some ferment ∷ Some crop ∷ replicate 28 None;
      rules = After 1 2 0 0 ∷ After 2 3 0 0 ∷ After 3 2 2 2 ∷ replicate 93 Free;
      period = 24;
      span = 60;
      stock = replicate 8 0;
    }
