use Rattle.std.proofs.Common.{rules, ◌≡◌, Some, arith, true, false}
use Rattle.xm_auction.specs.Prices.{is_preferred}
use Rattle.xm_rules.specs.declared.orders.Side.TheVariants.{Buy, Sell}
use Rattle.xm_auction.proofs.Pricing.{covered-says, found-balanced, found-better, found-tied}
use Rattle.xm_auction.proofs.price.price_between.Goals as goal

pub returns-then-get : goal.returns-then-get
returns-then-get c = λ phase orders b s.
    let low = c.get.ensures.value in
    let high = c.get-2.ensures.value in
    let test = c.if-get.true in
    rw c.kept_between.ensures
    (found-balanced phase orders c.args.reference c.args.buy.now c.args.sell.now (covered-says phase orders Buy (Some c.args.buy.now) b) (covered-says phase orders Sell (Some c.args.sell.now) s)
    (omega (arith, low, high, test)))

pub returns-then-is_preferred : goal.returns-then-is_preferred
returns-then-is_preferred c = λ phase orders b s.
    let better : is_preferred c.args.buy.now c.args.sell.now ≡ true = search rules in
    found-better phase orders Buy c.args.reference c.args.buy.now c.args.sell.now (covered-says phase orders Buy (Some c.args.buy.now) b) (covered-says phase orders Sell (Some c.args.sell.now) s) better

pub returns-then-is_preferred-2 : goal.returns-then-is_preferred-2
returns-then-is_preferred-2 c = λ phase orders b s.
    let better : is_preferred c.args.sell.now c.args.buy.now ≡ true = search rules in
    found-better phase orders Sell c.args.reference c.args.sell.now c.args.buy.now (covered-says phase orders Sell (Some c.args.sell.now) s) (covered-says phase orders Buy (Some c.args.buy.now) b) better

pub returns-else-is_preferred-2 : goal.returns-else-is_preferred-2
returns-else-is_preferred-2 c = λ phase orders b s.
    let low = c.get.ensures.value in
    let high = c.get-2.ensures.value in
    let test = c.if-get.false in
    let not_buy : is_preferred c.args.buy.now c.args.sell.now ≡ false = search rules in
    let not_sell : is_preferred c.args.sell.now c.args.buy.now ≡ false = search rules in
    rw c.kept_between-else-is_preferred-2.ensures
    (found-tied phase orders c.args.reference c.args.buy.now c.args.sell.now (covered-says phase orders Buy (Some c.args.buy.now) b) (covered-says phase orders Sell (Some c.args.sell.now) s)
    (omega (arith, low, high, test)) not_buy not_sell)
