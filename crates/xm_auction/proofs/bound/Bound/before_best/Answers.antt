use Rattle.std.proofs.Common.{◌≡◌, refl}
use Rattle.xm_auction.proofs.Gaps.{before-best, group_before}
use Rattle.xm_auction.proofs.bound.Bound.before_best.Goals as goal
use Rattle.xm_auction.proofs.bound.Bound.before_best.Goals.{in-Buy, in-Sell}

pub returns-clause-bound : goal.returns-clause-bound
returns-clause-bound c = λ phase orders made.
    let m = c.args.market.now in
    let is : c.match-market.result ≡ group_before m.side c.args.width c.prices_below.result = elim c.match-market.branch [
      | in-Buy w ↦ rw (w.result-is, c.places.ensures, w.in-Buy.is) refl
      | in-Sell w ↦ rw (w.result-is, c.places.ensures, w.in-Sell.is) refl
    ] in
    before-best phase orders c.args.width m made c.prices_below.result c.prices_below.ensures.high c.prices_below.ensures.best c.match-market.result is
