use Rattle.xm_rules.specs.Step.{come_under}
use Rattle.xm_rules.proofs.AfterCalls.{best_limits_apart}
use Rattle.xm_rules.proofs.ComingIn.{none_meet, phase_after}
use Rattle.xm_rules.proofs.laws.no_orders_meet_in_continuous_trading.Goals as goal

pub returns-clause-orders : goal.returns-clause-orders
returns-clause-orders c = λ condition s o none phase. none_meet s o none condition phase

pub returns-clause-limits : goal.returns-clause-limits
returns-clause-limits c = λ condition s o buy sell none phase e f.
    best_limits_apart (come_under condition s o) buy sell phase (none_meet s o none condition phase) e f

pub returns-clause-phase : goal.returns-clause-phase
returns-clause-phase c = λ condition s o trading. phase_after s o trading condition
