use Rattle.xm_auction.proofs.Gaps.{gap-before, side-made}
use Rattle.xm_auction.proofs.narrowing.Gap.before_best.Goals as goal
use Rattle.xm_rules.specs.Sides.{opposite}

pub with_group-requires : goal.with_group-requires
with_group-requires g c =
    let orders = c.args.book.now.orders in
    (c.before_best-bound.ensures.bound c.args.phase orders (side-made c.args.phase orders (opposite c.args.own.now.side) c.args.other.now c.requires.other)).bound

pub returns-clause-gap : goal.returns-clause-gap
returns-clause-gap g c =
    let orders = c.args.book.now.orders in
    let own = c.args.own.now in
    let other = c.args.other.now in
    gap-before c.args.phase orders own other c.requires.own c.requires.other c.before_best-own_bound.result c.before_best-bound.result
    (c.before_best-own_bound.ensures.bound c.args.phase orders c.requires.own)
    (c.before_best-bound.ensures.bound c.args.phase orders (side-made c.args.phase orders (opposite own.side) other c.requires.other))
    c.with_group.result c.with_group.ensures
