use Rattle.std.proofs.Common.{subst}
use Rattle.xm_workers.proofs.Sharing.{gathered-ends}
use Rattle.xm_workers.specs.Workers.{HasShared}
use Rattle.xm_workers.proofs.shared_day.closed.Goals as goal

pub returns : goal.returns
returns g c = λ config rows has.
    let settings = g.S.Naming.settings in
    let workers = g.S.Naming.workers in
    let gathered = c.in_ok-gathered in
    let of = gathered.ensures in
    gathered-ends settings workers config rows c.in_ok-day.field-0 gathered.field-0 (subst (HasShared settings workers config rows) c.in_ok-day.was has) of.journals of.history of.commands of.accepted of.refused
