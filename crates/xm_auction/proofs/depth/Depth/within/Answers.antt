use Rattle.std.proofs.Common.{sym, ◌∙◌}
use Rattle.xm_auction.proofs.Within.{depth-within, none-within}
use Rattle.xm_auction.proofs.depth.Depth.within.Goals as goal

pub returns-in-None : goal.returns-in-None
returns-in-None g c =
    none-within c.args.phase c.args.book.now.orders c.args.side c.args.bound c.of_market.result c.of_market.ensures (sym c.worst_within.ensures ∙ c.in-None.is)

pub returns-in-Some : goal.returns-in-Some
returns-in-Some g c =
    depth-within c.args.phase c.args.book.now.orders c.args.side c.args.bound c.in-Some.price c.args.units c.level_after.result (sym c.worst_within.ensures ∙ c.in-Some.is) c.requires.units
    c.level_after.ensures
