use Rattle.std.proofs.Common.{◌∙◌}
use Rattle.xm_day.proofs.Endings.{failed-of_writing}
use Rattle.xm_day.proofs.calls.statement.Goals as goal

pub returns-clause-failed : goal.returns-clause-failed
returns-clause-failed g c failed =
    let part = rw failed at c.write_text.ensures.failed in
    rw (c.as_slice.ensures.value ∙ c.in_ok-text.ensures) at part

pub returns-clause-faults : goal.returns-clause-faults
returns-clause-faults g c = failed-of_writing c.write_text.result c.write_text.ensures.fault
