use Rattle.xm_reasons.specs.RowRules.{group_prices}
use Rattle.xm_reasons.specs.declared.rules.Group.TheVariants.{OfSurplus}
use Rattle.xm_rules.specs.declared.orders.Side.TheVariants.{Sell}
use Rattle.xm_reasons.proofs.Deciding.{best-some, has-leader}
use Rattle.xm_reasons.proofs.rules.between_all.Goals as goal

pub unwrap-requires : goal.unwrap-requires
unwrap-requires c =
    let leader = c.args.leader.now in
    let rows = c.args.rows.now in
    rw c.best_price.ensures (best-some Sell (group_prices leader OfSurplus rows) leader.price (has-leader leader rows c.requires))
