use Rattle.std.proofs.Common.{◌+◌, ◌++◌, ◌∙◌, length, ap, arith}
use Rattle.xm_auction.specs.Allotment.{uncrossing_of}
use Rattle.xm_book.specs.TimeList.{TimeList}
use Rattle.xm_desk.proofs.CallsEnd.{fewer-orders, sized-trades}
use Rattle.xm_desk.proofs.Frames.{ends_call}
use Rattle.xm_desk.specs.Settled.{Unsettled, came, possible_trades, trades_in}
use Rattle.xm_desk.specs.Tape.{TapeView}
use Rattle.xm_rules.proofs.Prices.{some_volume}
use Rattle.xm_rules.specs.Allotment.{Uncrossing, auction_trades}
use Rattle.xm_rules.specs.State.{ref1}
use Rattle.xm_rules.specs.declared.phases.Phase.TheVariants.{Call}
use Rattle.xm_desk.proofs.unsettled.Unsettled.trade.Goals as goal

pub allot-requires-clause-some : goal.allot-requires-clause-some
allot-requires-clause-some g c =
    let s = c.args.self.now.state in
    some_volume (Call c.args.auction c.args.stage) s.orders (ref1 s) c.args.price c.args.volume c.requires.price

pub invariant_of-self : goal.invariant_of-self
invariant_of-self g c =
    let b = c.self.inside in
    let left = c.allot.ensures.orders in
    let u : Uncrossing = uncrossing_of c.args.auction c.args.stage b.book.orders c.args.price c.args.volume in
    let orders = ap (λ (l : TimeList). length l.orders) left in
    rw c.of.ensures (record {
      opening = ap (λ (t : TapeView). t.opening) c.allot.ensures.trades ∙ c.self.invariant.opening;
      opens = c.self.invariant.opens;
      few = c.self.invariant.few;
      frame =
          ends_call (came b.settings b.accepted) b.stops b.pending b.book c.allot.new.book b.tape.room c.allot.new.self.room b.ready.value (ap (λ (v : Unsettled). v.ready) c.self.view_is ∙ c.requires.ready) c.self.invariant.frame
          (ap (λ (l : TimeList). l.reserved) left) (ap (λ (l : TimeList). l.adds) left) (omega (arith, orders, c.allot.ensures.used, c.allot.ensures.room)) (omega (arith, orders, fewer-orders u));
    })

pub returns-clause-made : goal.returns-clause-made
returns-clause-made g c =
    let b = c.self.inside in
    let u : Uncrossing = uncrossing_of c.args.auction c.args.stage b.book.orders c.args.price c.args.volume in
    let made = auction_trades (b.sweeps + 1) u in
    let orders = ap (λ (l : TimeList). length l.orders) c.allot.ensures.orders in
    record {
      trades = made;
      appended = ap (λ (t : TapeView). t.trades) c.allot.ensures.trades ∙ ap (λ (x : Unsettled). x.state.trades ++ made) c.self.view_is;
      sized = sized-trades u (b.sweeps + 1) c.len.ensures.book.rests;
      fewer = omega (arith, orders, c.allot.ensures.used, ap possible_trades c.self.view_is, ap trades_in c.requires.ready, ap (λ (x : Unsettled). trades_in x.ready) c.self.view_is, ap trades_in c.of.ensures);
    }
