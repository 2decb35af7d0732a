use Rattle.std.proofs.Common.{◌++◌, string_bytes, refl, ap, ◌∙◌}
use Rattle.std.proofs.lemmas.Slice.{pushed}
use Rattle.transcript.proofs.pages.both_texts.Goals as goal

pub returns : goal.returns
returns c =
    let office = string_bytes c.in_ok-text.text in
    record {
      office_text = office;
      tablet_text = string_bytes c.in_ok-tablet_text.tablet_text;
      of_office = c.in_ok-text.ensures;
      of_tablet = c.in_ok-tablet_text.ensures;
      whole = pushed {was = office} c.as_str.result.now refl c.in_ok-push_str.was c.push_str.ensures.bytes ∙ ap (λ t. office ++ t) c.as_str.ensures.value;
    }
