use Rattle.xm_rules.specs.Step.{replay}
use Rattle.xm_rules.proofs.AfterCalls.{best_limits_apart}
use Rattle.xm_rules.proofs.Uncrossed.{uncrossed_replay}
use Rattle.xm_rules.proofs.laws.lawful_journals_leave_no_orders_that_meet.Goals as goal

pub returns-clause-orders : goal.returns-clause-orders
returns-clause-orders c = λ j lawful phase. (uncrossed_replay j lawful).unmet phase

pub returns-clause-limits : goal.returns-clause-limits
returns-clause-limits c = λ j buy sell lawful phase e f. best_limits_apart (replay j) buy sell phase ((uncrossed_replay j lawful).unmet phase) e f

pub returns-clause-units : goal.returns-clause-units
returns-clause-units c = λ j lawful. (uncrossed_replay j lawful).rests
