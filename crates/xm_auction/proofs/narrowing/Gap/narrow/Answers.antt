use Rattle.xm_auction.proofs.Gaps.{few-wider, gap-narrow, other-bound, other-market}
use Rattle.xm_auction.proofs.narrowing.Gap.narrow.Goals as goal

pub narrow-before-requires : goal.narrow-before-requires
narrow-before-requires g c = few-wider c.args.self.now.width c.args.width c.requires.width c.args.self.now.before.group c.requires.gap.before_is.in_range

pub narrow-other-requires : goal.narrow-other-requires
narrow-other-requires g c = few-wider c.args.self.now.width c.args.width c.requires.width c.args.self.now.other.group c.requires.gap.other_is.in_range

pub with_group-requires : goal.with_group-requires
with_group-requires g c =
    let orders = c.args.book.now.orders in
    let gap = c.args.self.now in
    let k = c.requires.gap in
    (c.narrow-other.ensures c.args.phase orders gap.width c.requires.width (other-market c.args.phase orders gap k) (other-bound c.args.phase orders gap k)).bound

pub returns-clause-gap : goal.returns-clause-gap
returns-clause-gap g c =
    let orders = c.args.book.now.orders in
    let gap = c.args.self.now in
    let k = c.requires.gap in
    gap-narrow c.args.phase orders gap k c.args.width c.narrow-before.result c.narrow-other.result
    (c.narrow-before.ensures c.args.phase orders gap.width c.requires.width k.market_is k.before_is)
    (c.narrow-other.ensures c.args.phase orders gap.width c.requires.width (other-market c.args.phase orders gap k) (other-bound c.args.phase orders gap k))
    c.with_group.result c.with_group.ensures
