use Rattle.std.proofs.Common.{ℕ, List, OnOk, subst, ◌∙◌}
use Rattle.std.specs.Io.KnownBytes.{Appends}
use Rattle.xm_day.proofs.Endings.{failed-of_writing}
use Rattle.xm_day.proofs.calls.carry.Goals as goal

pub returns-clause-ok : goal.returns-clause-ok
returns-clause-ok g c =
    subst (λ (text : List ℕ). OnOk c.write_text.result (Appends (g.W.Write.contents c.args.out.now) (g.W.Write.contents c.write_text.new.out) text)) (c.as_slice.ensures.value ∙ c.in_ok-text.ensures) c.write_text.ensures.ok

pub returns-clause-failed : goal.returns-clause-failed
returns-clause-failed g c failed =
    let part = rw failed at c.write_text.ensures.failed in
    rw (c.as_slice.ensures.value ∙ c.in_ok-text.ensures) at part

pub returns-clause-faults : goal.returns-clause-faults
returns-clause-faults g c = failed-of_writing c.write_text.result c.write_text.ensures.fault
