use Rattle.transcript.proofs.sentences.SentenceDisplay.fmt.Goals as goal

pub returns-in-AddStep-clause-writes : goal.returns-in-AddStep-clause-writes
returns-in-AddStep-clause-writes g c plain ok = rw c.in-AddStep.is (c.write.ensures.writes plain ok)

pub returns-in-After-clause-writes : goal.returns-in-After-clause-writes
returns-in-After-clause-writes g c plain ok = rw c.in-After.is (c.write-in-After.ensures.writes plain ok)

pub returns-in-SetVessels-clause-writes : goal.returns-in-SetVessels-clause-writes
returns-in-SetVessels-clause-writes g c plain ok = rw c.in-SetVessels.is (c.write-in-SetVessels.ensures.writes plain ok)
