use Rattle.xm_rules.specs.declared.orders.Side.TheVariants.{Buy, Sell}
use Rattle.xm_ladders.proofs.ladders.Ladders.new.Goals as goal

pub returns : goal.returns
returns g c Buy r k = c.new.ensures r k
returns g c Sell r k = c.new-2.ensures r k
