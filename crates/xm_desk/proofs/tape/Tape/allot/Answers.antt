use Rattle.std.proofs.Common.{◌≡◌, ◌<◌, ◌++◌, true, length, ap, sym, ◌∙◌, arith}
use Rattle.std.proofs.lemmas.List.Elements.{All-weaker}
use Rattle.xm_auction.specs.Allotment.{uncrossing_of}
use Rattle.xm_desk.proofs.Tapes.{last_auction_price-all, last_price-all, some-trades}
use Rattle.xm_rules.proofs.Allotments.{allotted_within}
use Rattle.xm_rules.proofs.CallTrades.{IsOfCall, trades_of_call}
use Rattle.xm_rules.specs.Allotment.{Uncrossing, auction_trades}
use Rattle.xm_rules.specs.State.{is_auction, last_auction_price, last_price}
use Rattle.xm_rules.specs.Sums.{total_quantity}
use Rattle.xm_rules.specs.declared.orders.Trade.{Trade}
use Rattle.xm_desk.proofs.tape.Tape.allot.Goals as goal

pub invariant_of-self : goal.invariant_of-self
invariant_of-self g c =
    let t = c.self.inside in
    let old = t.trades.trades in
    let price = c.args.price in
    let u : Uncrossing = uncrossing_of c.args.auction c.args.stage c.args.book.now.orders price c.args.volume in
    let made = auction_trades c.args.sweep u in
    let volume : total_quantity made ≡ c.args.volume = allotted_within c.args.sweep u (omega (arith, c.requires.volume)) (omega (arith, c.requires.volume)) in
    let some : 0 < length made = some-trades made (omega (arith, volume, c.requires.some)) in
    let at_price = All-weaker (IsOfCall u) (λ (t : Trade). t.price ≡ price) (λ t h. h.price) made (trades_of_call c.args.sweep u) in
    let of_auction = All-weaker (IsOfCall u) (λ (t : Trade). is_auction t.kind ≡ true) (λ t h. ap is_auction h.kind) made (trades_of_call c.args.sweep u) in
    let all : c.allocate.new.trades.trades ≡ old ++ made = c.allocate.ensures.trades in
    record {
      last = sym (ap (last_price t.opening) all ∙ last_price-all price t.opening old made some at_price);
      last_auction = sym (ap (last_auction_price t.opening) all ∙ last_auction_price-all price t.opening old made some at_price of_auction);
    }
