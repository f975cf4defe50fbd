-- What the end of a call leaves of a desk, and what it trades.
use Rattle.std.proofs.Common.{◌≡◌, ℕ, ◌≤◌, true, length}
use Rattle.std.specs.List.{list_all}
use Rattle.std.proofs.lemmas.List.Elements.{All-weaker}
use Rattle.std.proofs.lemmas.List.Sums.{AllPass-from_list_all}
use Rattle.xm_desk.specs.Made.{AreSized}
use Rattle.xm_rules.specs.Allotment.{Uncrossing, allotted, auction_trades, orders_after_call}
use Rattle.xm_rules.specs.Commands.{is_in_range}
use Rattle.xm_rules.specs.declared.orders.Order.{Order}
use Rattle.xm_rules.proofs.Ranges.{range_high}
use Rattle.xm_rules.proofs.SweepSizes.{no_more_orders}
use Rattle.xm_rules.proofs.TradeSizes.{trades_sized}
use Rattle.xm_ticks.specs.declared.numbers.TheConstants.{MAX_QUANTITY}

-- a call leaves no more orders
pub fewer-orders : (u : Uncrossing) → length (orders_after_call u) ≤ length u.orders
fewer-orders u = no_more_orders (allotted u) u.orders

-- no trade is larger than an order
pub sized-trades : (u : Uncrossing) (number : ℕ) → list_all (λ (o : Order). is_in_range o.rest) u.orders ≡ true → AreSized (auction_trades number u)
sized-trades u number rests =
    let small = All-weaker (λ (o : Order). is_in_range o.rest ≡ true) (λ (o : Order). o.rest ≤ MAX_QUANTITY) (λ o h. range_high o.rest h) u.orders (AllPass-from_list_all (λ (o : Order). is_in_range o.rest) u.orders rests) in
    trades_sized MAX_QUANTITY number u small
