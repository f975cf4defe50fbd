-- What is seen of a list of trades.
use Rattle.std.specs.Prelude.{ℕ, List}
use Rattle.xm_rules.specs.declared.orders.Trade.{Trade}

pub record TradeList : Type 0 where
  -- in the order in which they were made
  pub trades : List Trade
  -- for how many more there is room
  pub room : ℕ
