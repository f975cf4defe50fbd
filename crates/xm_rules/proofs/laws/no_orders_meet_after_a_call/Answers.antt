use Rattle.std.proofs.Common.{refl}
use Rattle.xm_rules.specs.Auction.{auction_price}
use Rattle.xm_rules.specs.State.{ref1}
use Rattle.xm_rules.specs.Step.{uncrossed}
use Rattle.xm_rules.specs.declared.phases.Phase.TheVariants.{Call}
use Rattle.xm_rules.proofs.AfterCalls.{best_limits_apart, none_meet_after}
use Rattle.xm_rules.proofs.laws.no_orders_meet_after_a_call.Goals as goal

pub returns-clause-orders : goal.returns-clause-orders
returns-clause-orders c = λ s auction stage some phase. none_meet_after s auction stage (auction_price (Call auction stage) s.orders (ref1 s)) refl some phase

pub returns-clause-limits : goal.returns-clause-limits
returns-clause-limits c = λ s auction stage buy sell some phase e f.
    best_limits_apart (uncrossed s (Call auction stage)) buy sell phase (none_meet_after s auction stage (auction_price (Call auction stage) s.orders (ref1 s)) refl some phase) e f
