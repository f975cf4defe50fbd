use Rattle.std.proofs.Common.{ℕ, subst}
use Rattle.xm_replay.specs.Taken.{DesksEnd}
use Rattle.xm_workers.specs.Workers.{IsShared}
use Rattle.xm_workers.proofs.shared_day.run_named.Goals as goal

pub returns-in-Ok : goal.returns-in-Ok
returns-in-Ok g c =
    let config = c.args.config.now in
    let ran = c.in-Ok.ensures in
    let ends = subst (λ (workers : ℕ). DesksEnd (IsShared workers) config ran.2 c.closed.result) c.requires.seats (c.closed.ensures config ran.2 ran.4) in
    (ran.0, ran.1, ran.2, ran.3, ends)
