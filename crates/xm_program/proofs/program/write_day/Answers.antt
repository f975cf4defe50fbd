use Rattle.std.proofs.Common.{Ok, Err, ap, refl}
use Rattle.xm_program.proofs.program.write_day.Goals as goal

pub returns-in-Ok-clause-ends : goal.returns-in-Ok-clause-ends
returns-in-Ok-clause-ends g c = (Ok c.in-Ok.completeness, c.in-Ok.ensures.ends, ap Ok c.outcome.ensures)

pub returns-in-Err-clause-ends : goal.returns-in-Err-clause-ends
returns-in-Err-clause-ends g c = (Err c.in-Err.fault, c.in-Err.ensures.ends, refl)
