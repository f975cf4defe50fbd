use Rattle.std.proofs.Common.{◌≡◌, [], ap, ◌∙◌, min}
use Rattle.xm_auction.specs.Covered.{best_covered}
use Rattle.xm_auction.specs.declared.depth.Depth.{Depth}
use Rattle.xm_auction.proofs.Pricing.{found-by_market}
use Rattle.xm_book.specs.Queues.{market_sum}
use Rattle.xm_rules.specs.Auction.{candidates}
use Rattle.xm_rules.specs.Sides.{opposite}
use Rattle.xm_rules.specs.declared.orders.Side.TheVariants.{Buy, Sell}
use Rattle.xm_auction.proofs.price.auction_price.Goals as goal

pub returns-in-None : goal.returns-in-None
returns-in-None g c =
    let orders = c.args.book.now.orders in
    let phase = c.args.phase in
    let start = c.near_crossing-start.ensures in
    let side : c.near_crossing-start.result.0.side ≡ Buy = start.side ∙ ap (λ (d : Depth). d.side) c.of_market-demand.ensures in
    let against : c.near_crossing-start.result.1.side ≡ Sell = ap (λ (d : Depth). d.side) start.start.other_depth ∙ ap opposite side in
    let buys : c.best_from-buys.result ≡ best_covered phase orders Buy = c.best_from-buys.ensures ∙ ap (best_covered phase orders) side in
    let sells : c.best_from-sells.result ≡ best_covered phase orders Sell = c.best_from-sells.ensures ∙ ap (best_covered phase orders) against in
    let none : candidates phase orders ≡ [] = c.in-None.ensures phase orders buys sells in
    let least : c.min.result ≡ min (market_sum phase Buy orders) (market_sum phase Sell orders) =
    c.min.ensures ∙ (λ i. min (c.of_market-demand.ensures i).units (c.of_market-supply.ensures i).units) in
    c.executed-in-None.ensures ∙ found-by_market phase orders c.args.reference c.min.result none least
