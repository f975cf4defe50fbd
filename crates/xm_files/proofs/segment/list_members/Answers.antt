use Rattle.std.proofs.Common.{[], get_or, arith}
use Rattle.xm_files.proofs.Distinct.{distinct-push, more-at, again-at}
use Rattle.xm_files.proofs.PassedErrors.{if_passed}
use Rattle.xm_files.proofs.segment.list_members.Goals as goal

pub returns-in_err-add-clause-err : goal.returns-in_err-add-clause-err
returns-in_err-add-clause-err c =
    if_passed _ c.from_residual.result c.in_err-add.field-0.0 c.from_residual.ensures.1
    (λ h.
    let causes = c.in_err-add.ensures.causes h in
    (causes.0, again-at c.args.names.now c.loop-name.list c.loop-name.name-index (record { ref_ptr = (0, 0); now = [] }) (omega arith) c.loop-name.invariant.listed causes.1))

pub loop-name-preserved : goal.loop-name-preserved
loop-name-preserved c =
    let name = get_or c.args.names.now c.loop-name.name-index (record { ref_ptr = (0, 0); now = [] }) in
    record {
      listed = rw c.in_ok-add.ensures.added (more-at c.args.names.now c.loop-name.list c.loop-name.name-index (record { ref_ptr = (0, 0); now = [] }) (omega arith) c.loop-name.invariant.listed);
      distinct = rw c.in_ok-add.ensures.added (distinct-push c.loop-name.list name.now c.loop-name.invariant.distinct c.in_ok-add.ensures.fresh);
    }
