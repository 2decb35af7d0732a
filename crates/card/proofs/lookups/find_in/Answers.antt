use Rattle.std.proofs.Common.{Some, refl, ◌∙◌, subst}
use Rattle.book.proofs.Walking.{falls}
use Rattle.book.specs.Reading.{Stepped}
use Rattle.card.proofs.Finding.{looked_none, step_looked, fault_looked, end_looked}
use Rattle.card.proofs.lookups.find_in.Goals as goal

pub loop-item-init : goal.loop-item-init
loop-item-init c = (refl, λ end items sheet w sound. looked_none refl)

pub loop-item-smaller : goal.loop-item-smaller
loop-item-smaller c = falls c.in-Some.ensures

pub loop-item-preserved : goal.loop-item-preserved
loop-item-preserved c =
    let same = c.loop-item.invariant.0 in
    let step = subst (λ r. Stepped c.loop-item.reader (Some r) c.read_next.new.self) c.in-Ok.is c.in-Some.ensures in
    (step.book ∙ same, λ end items sheet w sound. step_looked same (c.loop-item.invariant.1 end items sheet w sound) items w sheet sound c.in-Ok.entry _ c.noted-found.ensures step)

pub returns-in-Err : goal.returns-in-Err
returns-in-Err c = λ end items sheet w sound.
    let same = c.loop-item.invariant.0 in
    let step = subst (λ r. Stepped c.loop-item.reader (Some r) c.read_next.new.self) c.in-Err.is c.in-Some.ensures in
    absurd (fault_looked same (c.loop-item.invariant.1 end items sheet w sound) items w sheet sound _ step)

pub returns : goal.returns
returns c = λ end items sheet w sound. end_looked c.loop-item.invariant.0 (c.loop-item.invariant.1 end items sheet w sound) items w sheet sound c.in_default.ensures
