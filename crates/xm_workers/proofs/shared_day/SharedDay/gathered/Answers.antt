use Rattle.std.proofs.Common.{sym, ◌∙◌}
use Rattle.xm_workers.proofs.Gathered.{all_sums-accepted, gathered-accepted, gathered-journals}
use Rattle.xm_segment.specs.Gathering.{all_sums}
use Rattle.xm_workers.proofs.shared_day.SharedDay.gathered.Goals as goal

pub returns-clause-journals : goal.returns-clause-journals
returns-clause-journals g c =
    gathered-journals g.S.Naming.settings (all_sums c.in_ok-seats.seats.items) c.in_ok-desks.desks.items c.in_ok-desks.ensures.gathered.0

pub returns-clause-commands : goal.returns-clause-commands
returns-clause-commands g c =
    let seats = c.in_ok-seats.seats.items in
    let gathered = c.in_ok-desks.ensures.gathered in
    c.in_ok-seats.ensures.ledgers ∙ sym (all_sums-accepted seats) ∙ gathered-accepted g.S.Naming.settings (all_sums seats) c.in_ok-desks.desks.items gathered.0 gathered.1
