use Rattle.xm_rules.proofs.ReachedStops.{none_reached, more_turns}
use Rattle.xm_rules.proofs.laws.journals_hold_no_reached_stop.Goals as goal

pub returns-clause-held : goal.returns-clause-held
returns-clause-held c = none_reached

pub returns-clause-pending : goal.returns-clause-pending
returns-clause-pending c = more_turns
