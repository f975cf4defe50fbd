use Rattle.xm_rules.specs.Active.{active}
use Rattle.xm_rules.proofs.Ahead.{ahead_once, ahead_one, ahead_on}
use Rattle.xm_rules.proofs.Positions.{rising_active, same_at_position}
use Rattle.xm_rules.proofs.laws.priority_orders_the_active_orders.Goals as goal

pub returns-clause-not_both : goal.returns-clause-not_both
returns-clause-not_both c = ahead_once

pub returns-clause-one : goal.returns-clause-one
returns-clause-one c = λ phase side orders i j at to differ.
    ahead_one side i j (λ same. differ (same_at_position (active phase side orders) (rising_active phase side orders) i j at.0 at.1 at.2 to.0 to.1 to.2 same))

pub returns-clause-in_turn : goal.returns-clause-in_turn
returns-clause-in_turn c = ahead_on
