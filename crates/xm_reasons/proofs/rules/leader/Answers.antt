use Rattle.std.proofs.Common.{Option, Some, ap, sym, ◌∙◌, take}
use Rattle.xm_reasons.specs.RowRules.{leader_of, preferred_of}
use Rattle.xm_reasons.specs.declared.candidates.Candidate.{Candidate}
use Rattle.xm_reasons.proofs.Passing.{leader-push, taken-one}
use Rattle.xm_reasons.proofs.rules.leader.Goals as goal

pub loop-row-preserved : goal.loop-row-preserved
loop-row-preserved c =
    let row = c.row-item.result in
    let rows = c.args.rows.now in
    let k = c.loop-row.row-index in
    ap (λ (d : Candidate). Some d) (c.preferred.ensures ∙ ap (λ (o : Option Candidate). preferred_of o row) c.loop-row.invariant)
    ∙ sym (leader-push (take k rows) row) ∙ ap leader_of (sym (taken-one rows k row c.loop-row-test.true c.row-item.is))
