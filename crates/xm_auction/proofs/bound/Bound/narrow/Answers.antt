use Rattle.std.proofs.Common.{◌∙◌, sym}
use Rattle.xm_auction.proofs.Gaps.{narrowed-before, narrowed-same}
use Rattle.xm_auction.proofs.bound.Bound.narrow.Goals as goal

pub returns-then-self-market : goal.returns-then-self-market
returns-then-self-market c = λ phase orders wider e made is.
    narrowed-before phase orders c.args.market.now.side wider c.args.width c.args.self.now c.before_best.result (c.before_best.ensures.bound phase orders made)
    (c.before_best.ensures.units ∙ sym c.if-self-market.true)

pub returns : goal.returns
returns c = λ phase orders wider e made is. narrowed-same phase orders c.args.market.now.side wider c.args.width e c.args.self.now is
