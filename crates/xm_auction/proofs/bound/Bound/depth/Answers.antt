use Rattle.std.proofs.Common.{◌*◌, sym, ◌∙◌}
use Rattle.xm_auction.proofs.Within.{market-within}
use Rattle.xm_price_maps.specs.Sums.{places_of}
use Rattle.xm_auction.proofs.bound.Bound.depth.Goals as goal

pub returns-then-self-market : goal.returns-then-self-market
returns-then-self-market g c =
    let m = c.args.market.now in
    market-within c.args.phase c.args.book.now.orders m.side (c.args.self.now.group * places_of c.args.width) m c.requires.market (sym c.if-self-market.true ∙ c.requires.bound.units_are)
