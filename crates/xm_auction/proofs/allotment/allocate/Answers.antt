use Rattle.std.proofs.Common.{refl, ◌≡◌, ◌++◌, ◌∷◌, [], ◌-◌, sym, ap, ◌∙◌, arith}
use Rattle.xm_auction.specs.Allotment.{uncrossing_of}
use Rattle.xm_auction.proofs.Progress.{CanBeAllotted, at_begin, has_buy, has_sell, the_same, turn}
use Rattle.xm_auction.proofs.allotment.allocate.Goals as goal
use Rattle.xm_book.specs.Queues.{best_order, taken_from}
use Rattle.xm_book.specs.TimeList.{TimeList}
use Rattle.xm_book.proofs.Naming.{contains_best}
use Rattle.xm_book.proofs.Taking.{rest_stays}
use Rattle.xm_book.specs.Trades.{TradeList}
use Rattle.xm_rules.specs.declared.orders.Side.TheVariants.{Buy, Sell}
use Rattle.xm_rules.specs.declared.phases.Phase.TheVariants.{Call}

pub loop-left-init : goal.loop-left-init
loop-left-init g c =
    let u = uncrossing_of c.args.auction c.args.stage c.args.book.now.orders c.args.price c.args.volume in
    record {
      book = refl;
      buy = c.best_of-best_buy.ensures;
      sell = c.best_of-best_sell.ensures;
      progress = at_begin u c.args.sweep c.args.trades.now.trades c.args.trades.now.room c.len.ensures.book.rests c.requires.room;
    }

pub unwrap-buy-requires : goal.unwrap-buy-requires
unwrap-buy-requires g c =
    let u = uncrossing_of c.args.auction c.args.stage c.args.book.now.orders c.args.price c.args.volume in
    let can : CanBeAllotted u = record { own = c.len.ensures.book.names; volume = c.requires.volume } in
    let l = c.loop-left in
    rw l.invariant.buy (has_buy u c.args.sweep l.left l.book.orders c.args.trades.now.trades l.trades.trades c.args.trades.now.room l.trades.room can l.invariant.progress c.loop-left-test.true)

pub unwrap-sell-requires : goal.unwrap-sell-requires
unwrap-sell-requires g c =
    let u = uncrossing_of c.args.auction c.args.stage c.args.book.now.orders c.args.price c.args.volume in
    let can : CanBeAllotted u = record { own = c.len.ensures.book.names; volume = c.requires.volume } in
    let l = c.loop-left in
    rw l.invariant.sell (has_sell u c.args.sweep l.left l.book.orders c.args.trades.now.trades l.trades.trades c.args.trades.now.room l.trades.room can l.invariant.progress c.loop-left-test.true)

pub fill-requires-clause-there : goal.fill-requires-clause-there
fill-requires-clause-there g c =
    contains_best (Call c.args.auction c.args.stage) Buy c.loop-left.book.orders c.unwrap-buy.result (sym c.loop-left.invariant.buy ∙ c.unwrap-buy.ensures)

pub fill-requires-clause-some : goal.fill-requires-clause-some
fill-requires-clause-some g c =
    let u = uncrossing_of c.args.auction c.args.stage c.args.book.now.orders c.args.price c.args.volume in
    let can : CanBeAllotted u = record { own = c.len.ensures.book.names; volume = c.requires.volume } in
    let l = c.loop-left in
    let t = turn u c.args.sweep l.left l.book.orders c.args.trades.now.trades l.trades.trades c.args.trades.now.room l.trades.room can l.invariant.progress c.loop-left-test.true c.unwrap-buy.result
    c.unwrap-sell.result c.trade_of-trade.result (sym l.invariant.buy ∙ c.unwrap-buy.ensures) (sym l.invariant.sell ∙ c.unwrap-sell.ensures) c.trade_of-trade.ensures in
    let some = t.some in
    omega arith

pub fill-requires-in-loop-left-clause-there : goal.fill-requires-in-loop-left-clause-there
fill-requires-in-loop-left-clause-there g c =
    let u = uncrossing_of c.args.auction c.args.stage c.args.book.now.orders c.args.price c.args.volume in
    let can : CanBeAllotted u = record { own = c.len.ensures.book.names; volume = c.requires.volume } in
    let l = c.loop-left in
    let t = turn u c.args.sweep l.left l.book.orders c.args.trades.now.trades l.trades.trades c.args.trades.now.room l.trades.room can l.invariant.progress c.loop-left-test.true c.unwrap-buy.result
    c.unwrap-sell.result c.trade_of-trade.result (sym l.invariant.buy ∙ c.unwrap-buy.ensures) (sym l.invariant.sell ∙ c.unwrap-sell.ensures) c.trade_of-trade.ensures in
    contains_best (Call c.args.auction c.args.stage) Sell c.fill.new.self.orders c.unwrap-sell.result
    (ap (λ (b : TimeList). best_order (Call c.args.auction c.args.stage) Sell b.orders) c.fill.ensures ∙ t.sell_stays)

pub fill-requires-in-loop-left-clause-some : goal.fill-requires-in-loop-left-clause-some
fill-requires-in-loop-left-clause-some g c =
    let u = uncrossing_of c.args.auction c.args.stage c.args.book.now.orders c.args.price c.args.volume in
    let can : CanBeAllotted u = record { own = c.len.ensures.book.names; volume = c.requires.volume } in
    let l = c.loop-left in
    let t = turn u c.args.sweep l.left l.book.orders c.args.trades.now.trades l.trades.trades c.args.trades.now.room l.trades.room can l.invariant.progress c.loop-left-test.true c.unwrap-buy.result
    c.unwrap-sell.result c.trade_of-trade.result (sym l.invariant.buy ∙ c.unwrap-buy.ensures) (sym l.invariant.sell ∙ c.unwrap-sell.ensures) c.trade_of-trade.ensures in
    let some = t.some in
    omega arith

pub best_left-best_buy-requires : goal.best_left-best_buy-requires
best_left-best_buy-requires g c less =
    let u = uncrossing_of c.args.auction c.args.stage c.args.book.now.orders c.args.price c.args.volume in
    let can : CanBeAllotted u = record { own = c.len.ensures.book.names; volume = c.requires.volume } in
    let l = c.loop-left in
    let t = turn u c.args.sweep l.left l.book.orders c.args.trades.now.trades l.trades.trades c.args.trades.now.room l.trades.room can l.invariant.progress c.loop-left-test.true c.unwrap-buy.result
    c.unwrap-sell.result c.trade_of-trade.result (sym l.invariant.buy ∙ c.unwrap-buy.ensures) (sym l.invariant.sell ∙ c.unwrap-sell.ensures) c.trade_of-trade.ensures in
    let trade = c.trade_of-trade.result in
    let filled : c.fill-in-loop-left.new.self.orders ≡ taken_from c.unwrap-sell.result trade.quantity (taken_from c.unwrap-buy.result trade.quantity l.book.orders) =
    ap (λ (b : TimeList). b.orders) c.fill-in-loop-left.ensures ∙ ap (λ (b : TimeList). taken_from c.unwrap-sell.result trade.quantity b.orders) c.fill.ensures in
    ap (best_order (Call c.args.auction c.args.stage) Buy) filled ∙ t.buy_left less

pub best_left-best_sell-requires : goal.best_left-best_sell-requires
best_left-best_sell-requires g c less =
    let u = uncrossing_of c.args.auction c.args.stage c.args.book.now.orders c.args.price c.args.volume in
    let can : CanBeAllotted u = record { own = c.len.ensures.book.names; volume = c.requires.volume } in
    let l = c.loop-left in
    let t = turn u c.args.sweep l.left l.book.orders c.args.trades.now.trades l.trades.trades c.args.trades.now.room l.trades.room can l.invariant.progress c.loop-left-test.true c.unwrap-buy.result
    c.unwrap-sell.result c.trade_of-trade.result (sym l.invariant.buy ∙ c.unwrap-buy.ensures) (sym l.invariant.sell ∙ c.unwrap-sell.ensures) c.trade_of-trade.ensures in
    let trade = c.trade_of-trade.result in
    let filled : c.fill-in-loop-left.new.self.orders ≡ taken_from c.unwrap-sell.result trade.quantity (taken_from c.unwrap-buy.result trade.quantity l.book.orders) =
    ap (λ (b : TimeList). b.orders) c.fill-in-loop-left.ensures ∙ ap (λ (b : TimeList). taken_from c.unwrap-sell.result trade.quantity b.orders) c.fill.ensures in
    ap (best_order (Call c.args.auction c.args.stage) Sell) filled ∙ t.sell_left less

pub loop-left-smaller : goal.loop-left-smaller
loop-left-smaller g c =
    let u = uncrossing_of c.args.auction c.args.stage c.args.book.now.orders c.args.price c.args.volume in
    let can : CanBeAllotted u = record { own = c.len.ensures.book.names; volume = c.requires.volume } in
    let l = c.loop-left in
    let t = turn u c.args.sweep l.left l.book.orders c.args.trades.now.trades l.trades.trades c.args.trades.now.room l.trades.room can l.invariant.progress c.loop-left-test.true c.unwrap-buy.result
    c.unwrap-sell.result c.trade_of-trade.result (sym l.invariant.buy ∙ c.unwrap-buy.ensures) (sym l.invariant.sell ∙ c.unwrap-sell.ensures) c.trade_of-trade.ensures in
    let some = t.some in
    let within = t.within in
    let from = c.from-left.ensures in
    omega arith

pub loop-left-preserved : goal.loop-left-preserved
loop-left-preserved g c =
    let u = uncrossing_of c.args.auction c.args.stage c.args.book.now.orders c.args.price c.args.volume in
    let can : CanBeAllotted u = record { own = c.len.ensures.book.names; volume = c.requires.volume } in
    let l = c.loop-left in
    let t = turn u c.args.sweep l.left l.book.orders c.args.trades.now.trades l.trades.trades c.args.trades.now.room l.trades.room can l.invariant.progress c.loop-left-test.true c.unwrap-buy.result
    c.unwrap-sell.result c.trade_of-trade.result (sym l.invariant.buy ∙ c.unwrap-buy.ensures) (sym l.invariant.sell ∙ c.unwrap-sell.ensures) c.trade_of-trade.ensures in
    let trade = c.trade_of-trade.result in
    let filled : c.fill-in-loop-left.new.self.orders ≡ taken_from c.unwrap-sell.result trade.quantity (taken_from c.unwrap-buy.result trade.quantity l.book.orders) =
    ap (λ (b : TimeList). b.orders) c.fill-in-loop-left.ensures ∙ ap (λ (b : TimeList). taken_from c.unwrap-sell.result trade.quantity b.orders) c.fill.ensures in
    record {
      book = rest_stays c.args.book.now c.fill.new.self c.fill-in-loop-left.new.self _ (rest_stays c.args.book.now l.book c.fill.new.self _ l.invariant.book c.fill.ensures) c.fill-in-loop-left.ensures;
      buy = c.best_left-best_buy.ensures;
      sell = c.best_left-best_sell.ensures;
      progress =
          the_same u c.args.sweep (l.left - trade.quantity) (taken_from c.unwrap-sell.result trade.quantity (taken_from c.unwrap-buy.result trade.quantity l.book.orders)) c.args.trades.now.trades
          (l.trades.trades ++ trade ∷ []) c.args.trades.now.room (l.trades.room - 1) (l.left - c.from-left.result) c.fill-in-loop-left.new.self.orders c.push.new.self.trades c.push.new.self.room
          (ap (λ n. l.left - n) c.from-left.ensures) filled (ap (λ (s : TradeList). s.trades) c.push.ensures) (ap (λ (s : TradeList). s.room) c.push.ensures) t.next;
    }
