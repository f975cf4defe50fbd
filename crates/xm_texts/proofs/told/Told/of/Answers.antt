use Rattle.xm_texts.proofs.told.Told.of.Goals as goal

pub returns-clause-answers : goal.returns-clause-answers
returns-clause-answers g c = c.in_ok-answers.ensures.begun
