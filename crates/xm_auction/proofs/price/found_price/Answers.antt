use Rattle.std.proofs.Common.{Some, None, sym, ◌∙◌}
use Rattle.xm_rules.specs.declared.orders.Side.TheVariants.{Buy, Sell}
use Rattle.xm_auction.proofs.Pricing.{covered-says, found-alone, no-candidate}
use Rattle.xm_auction.proofs.price.found_price.Goals as goal

pub returns-in-None-sells : goal.returns-in-None-sells
returns-in-None-sells c = λ phase orders b s.
    no-candidate phase orders (covered-says phase orders Buy None (sym c.in-None.is ∙ b)) (covered-says phase orders Sell None (sym c.in-None-sells.is ∙ s))

pub returns-in-Some-sells : goal.returns-in-Some-sells
returns-in-Some-sells c = λ phase orders b s.
    found-alone phase orders Sell c.args.reference c.in-Some-sells.sell (covered-says phase orders Sell (Some c.in-Some-sells.sell) (sym c.in-Some-sells.is ∙ s))
    (covered-says phase orders Buy None (sym c.in-None.is ∙ b))

pub returns-in-None-sells-2 : goal.returns-in-None-sells-2
returns-in-None-sells-2 c = λ phase orders b s.
    found-alone phase orders Buy c.args.reference c.in-Some.buy (covered-says phase orders Buy (Some c.in-Some.buy) (sym c.in-Some.is ∙ b))
    (covered-says phase orders Sell None (sym c.in-None-sells-2.is ∙ s))
