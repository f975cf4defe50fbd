use Rattle.std.proofs.Common.{subst}
use Rattle.xm_workers.proofs.Chains.{rounds-work}
use Rattle.xm_workers.specs.Workers.{HasShared}
use Rattle.xm_workers.proofs.shared_day.take_more.Goals as goal

pub returns-clause-taken : goal.returns-clause-taken
returns-clause-taken g c = λ config taken has.
    let settings = g.S.Naming.settings in
    let workers = g.S.Naming.workers in
    let round = c.in_ok-take_round in
    rounds-work settings workers config taken c.args.rows.now c.in_ok-day.field-0 round.field-0 (subst (HasShared settings workers config taken) c.in_ok-day.was has) round.ensures.worked round.ensures.taken
