use Rattle.std.proofs.Common.{inl}
use Rattle.xm_program.proofs.explanations.write_explanation.Goals as goal

pub returns-clause-ends : goal.returns-clause-ends
returns-clause-ends g c = inl (c.in_ok-day.day, c.in_ok-day.ensures.paths, c.explain_day.ensures.ends)
