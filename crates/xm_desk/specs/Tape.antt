-- What is seen of a tape of trades.
use Rattle.std.specs.Prelude.{ℕ, List}
use Rattle.xm_match.specs.Meeting.{sweep_over}
use Rattle.xm_rules.specs.State.{last_auction_price, last_price}
use Rattle.xm_rules.specs.Sweep.{Sweep}
use Rattle.xm_rules.specs.declared.orders.Order.{Order}
use Rattle.xm_rules.specs.declared.orders.Trade.{Trade}
use Rattle.xm_rules.specs.declared.settings.Widths.{Widths}

pub record TapeView : Type 0 where
  -- the price before the first trade, which is the opening reference
  pub opening : ℕ
  pub trades : List Trade
  -- for how many more there is room
  pub room : ℕ

-- the sweep of an incoming order that finds this time list
abbrev pub swept_by : TapeView → List Order → Order → Widths → Sweep
swept_by t orders incoming widths = sweep_over orders incoming (last_price t.opening t.trades) (last_auction_price t.opening t.trades) widths
