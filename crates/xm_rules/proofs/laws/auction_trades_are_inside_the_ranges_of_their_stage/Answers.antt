use Rattle.xm_rules.specs.Auction.{auction_price}
use Rattle.xm_rules.specs.State.{ref1}
use Rattle.xm_rules.specs.Step.{uncrossed}
use Rattle.xm_rules.specs.declared.phases.CallStage.TheVariants.{Ordinary, Interrupted}
use Rattle.xm_rules.specs.declared.phases.Phase.TheVariants.{Call}
use Rattle.xm_rules.proofs.CallTrades.{new_trades_follow, each_new_trade, adds_marked, adds_at_price, no_new_trades, adds_inside_both, adds_inside_wide}
use Rattle.xm_rules.proofs.laws.auction_trades_are_inside_the_ranges_of_their_stage.Goals as goal

pub returns-clause-appended : goal.returns-clause-appended
returns-clause-appended c = λ s auction stage.
    new_trades_follow _ s (uncrossed s (Call auction stage)) (adds_marked s auction stage (auction_price (Call auction stage) s.orders (ref1 s)))

pub returns-clause-ordinary : goal.returns-clause-ordinary
returns-clause-ordinary c = λ s auction.
    each_new_trade _ s (uncrossed s (Call auction Ordinary)) (adds_inside_both s auction (auction_price (Call auction Ordinary) s.orders (ref1 s)))

pub returns-clause-interrupted : goal.returns-clause-interrupted
returns-clause-interrupted c = λ s auction.
    each_new_trade _ s (uncrossed s (Call auction Interrupted)) (adds_inside_wide s auction (auction_price (Call auction Interrupted) s.orders (ref1 s)))

pub returns-clause-kind : goal.returns-clause-kind
returns-clause-kind c = λ s auction stage.
    each_new_trade _ s (uncrossed s (Call auction stage)) (adds_marked s auction stage (auction_price (Call auction stage) s.orders (ref1 s)))

pub returns-clause-price : goal.returns-clause-price
returns-clause-price c = λ s auction stage price traded e.
    each_new_trade _ s (uncrossed s (Call auction stage)) (adds_at_price s auction stage (auction_price (Call auction stage) s.orders (ref1 s)) price traded e)

pub returns-clause-none : goal.returns-clause-none
returns-clause-none c = λ s auction stage e. no_new_trades s auction stage (auction_price (Call auction stage) s.orders (ref1 s)) e
