use Rattle.std.proofs.Common.{◌*◌, ap, subst}
use Rattle.xm_auction.specs.Narrowing.{IsDepthWithin}
use Rattle.xm_price_maps.specs.Sums.{places_of}
use Rattle.xm_auction.specs.declared.depth.Depth.{Depth}
use Rattle.xm_auction.proofs.Gaps.{begins, begins-turned}
use Rattle.xm_auction.proofs.narrowing.Gap.depths.Goals as goal
use Rattle.xm_rules.specs.declared.orders.Side.{Side}

pub returns-clause-start : goal.returns-clause-start
returns-clause-start g c =
    let orders = c.args.book.now.orders in
    let gap = c.args.self.now in
    let other = c.depth-other.result in
    begins c.args.phase orders gap c.requires c.depth-own.result other c.depth-own.ensures
    (subst (λ (s : Side). IsDepthWithin c.args.phase orders s (gap.other.group * places_of gap.width) other) (ap (λ (d : Depth). d.side) c.requires.other_market_is) c.depth-other.ensures)

pub returns-clause-turned : goal.returns-clause-turned
returns-clause-turned g c =
    let orders = c.args.book.now.orders in
    let gap = c.args.self.now in
    let other = c.depth-other.result in
    begins-turned c.args.phase orders gap c.requires c.depth-own.result other c.depth-own.ensures
    (subst (λ (s : Side). IsDepthWithin c.args.phase orders s (gap.other.group * places_of gap.width) other) (ap (λ (d : Depth). d.side) c.requires.other_market_is) c.depth-other.ensures)
    c.len.ensures.book.rests
