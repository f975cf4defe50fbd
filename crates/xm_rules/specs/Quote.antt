-- The quote of a state, and the price that a call has at this moment.
use Rattle.std.specs.Prelude.{ℕ, Option, None}
use Rattle.xm_rules.specs.Active.{active, limits}
use Rattle.xm_rules.specs.Auction.{auction_price}
use Rattle.xm_rules.specs.Sides.{best}
use Rattle.xm_rules.specs.State.{State, ref1, ref2}
use Rattle.xm_rules.specs.Sums.{total_quantity}
use Rattle.xm_rules.specs.declared.orders.Side.{Side}
use Rattle.xm_rules.specs.declared.orders.Side.TheVariants.{Buy, Sell}
use Rattle.xm_rules.specs.declared.phases.Phase.{Phase}
use Rattle.xm_rules.specs.declared.phases.Phase.TheVariants.{Call}
use Rattle.xm_rules.specs.declared.replies.Quote.{Quote}

-- the best limit of the active orders of a side
abbrev pub best_limit : State → Side → Option ℕ
best_limit s side = best side (limits (active s.phase side s.orders))

abbrev pub quote : State → Quote
quote s =
    record { version = s.accepted; phase = s.phase; best_buy = best_limit s Buy; best_sell = best_limit s Sell; ref1 = ref1 s; ref2 = ref2 s; quantity = total_quantity s.trades }

abbrev pub indicative_in : State → Phase → Option (ℕ × ℕ)
indicative_in s (Call auction stage) = auction_price (Call auction stage) s.orders (ref1 s)
indicative_in s _ = None

-- the price and the volume of a call, if it ended now; nothing outside a call
abbrev pub indicative : State → Option (ℕ × ℕ)
indicative s = indicative_in s s.phase
