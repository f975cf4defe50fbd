use Rattle.xm_rules.specs.declared.orders.Side.TheVariants.{Buy, Sell}
use Rattle.xm_rules.specs.declared.phases.Phase.TheVariants.{Call}
use Rattle.xm_rules.proofs.Allotments.{allotted_within, allotted_to_side, within_side}
use Rattle.xm_rules.proofs.Prices.{volume_at_price}
use Rattle.xm_rules.proofs.laws.allotted_trades_sum_to_the_volume.Goals as goal

pub returns-clause-trades : goal.returns-clause-trades
returns-clause-trades c = λ number reference u e.
    let at = volume_at_price (Call u.auction u.stage) u.orders reference u.price u.volume e in
    allotted_within number u (within_side u Buy at) (within_side u Sell at)

pub returns-clause-orders : goal.returns-clause-orders
returns-clause-orders c = λ reference u side e.
    let at = volume_at_price (Call u.auction u.stage) u.orders reference u.price u.volume e in
    allotted_to_side u side (within_side u side at)
