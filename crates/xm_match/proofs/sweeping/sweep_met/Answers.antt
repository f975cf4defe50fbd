use Rattle.std.proofs.Common.{refl, ◌≡◌, ◌≤◌, ◌++◌, ◌∷◌, [], ◌-◌, Option, Some, sym, ap, subst, ◌∙◌, arith}
use Rattle.xm_book.specs.Queues.{best_order, taken_from, taken_from_any, taken_from_best}
use Rattle.xm_book.specs.TimeList.{TimeList}
use Rattle.xm_book.specs.Trades.{TradeList}
use Rattle.xm_slots.proofs.Tests.{same_some}
use Rattle.xm_book.proofs.Naming.{contains_best}
use Rattle.xm_match.specs.Meeting.{next_met, price_outside, sweep_over, terms_of, trade_up_to}
use Rattle.xm_match.specs.declared.meeting.Next.TheVariants.{Inside}
use Rattle.xm_match.specs.declared.terms.Terms.{Terms}
use Rattle.xm_match.proofs.Cuts.{IsSound}
use Rattle.xm_match.proofs.Ending.{Ended, ended}
use Rattle.xm_match.proofs.NextTrade.{at_end, inside}
use Rattle.xm_match.proofs.Progress.{at_begin, the_same, turn}
use Rattle.xm_match.proofs.sweeping.sweep_met.Given as given
use Rattle.xm_match.proofs.sweeping.sweep_met.Goals as goal
use Rattle.xm_rules.specs.Sweep.{other_side}
use Rattle.xm_rules.specs.declared.orders.Order.{Order}
use Rattle.xm_rules.specs.declared.phases.Phase.TheVariants.{Continuous}

pub loop-next-init : goal.loop-next-init
loop-next-init g c =
    let w = sweep_over c.args.book.now.orders c.args.incoming.now c.args.ref1 c.args.ref2 c.args.widths.now in
    let sound : IsSound w = record { own = c.len.ensures.book.names; rests = c.len.ensures.book.rests } in
    record {
      book = refl;
      next = c.next_met-next.ensures ∙ ap (λ (u : Terms). next_met u c.args.incoming.now.rest c.args.book.now.orders) c.new-terms.ensures;
      progress = at_begin w c.args.number c.args.trades.now.trades c.args.trades.now.room sound c.requires.room;
    }

pub fill-requires-clause-there : goal.fill-requires-clause-there
fill-requires-clause-there g c =
    let w = sweep_over c.args.book.now.orders c.args.incoming.now c.args.ref1 c.args.ref2 c.args.widths.now in
    let sound : IsSound w = record { own = c.len.ensures.book.names; rests = c.len.ensures.book.rests } in
    let l = c.loop-next in
    let met : next_met (terms_of w) l.rest l.book.orders ≡ Inside c.in-Inside.order = sym l.invariant.next ∙ c.in-Inside.is in
    contains_best Continuous (other_side w) l.book.orders c.in-Inside.order (inside (terms_of w) l.rest l.book.orders c.in-Inside.order met).best

pub fill-requires-clause-some : goal.fill-requires-clause-some
fill-requires-clause-some g c =
    let w = sweep_over c.args.book.now.orders c.args.incoming.now c.args.ref1 c.args.ref2 c.args.widths.now in
    let sound : IsSound w = record { own = c.len.ensures.book.names; rests = c.len.ensures.book.rests } in
    let l = c.loop-next in
    let o = c.in-Inside.order in
    let trade = c.trade_up_to-trade.result in
    let met : next_met (terms_of w) l.rest l.book.orders ≡ Inside o = sym l.invariant.next ∙ c.in-Inside.is in
    let best : best_order Continuous (other_side w) l.book.orders ≡ Some o = (inside (terms_of w) l.rest l.book.orders o met).best in
    let t = turn w c.args.number l.rest l.book.orders c.args.trades.now.trades l.trades.trades c.args.trades.now.room l.trades.room sound l.invariant.progress o met trade
    (c.trade_up_to-trade.ensures ∙ ap (λ (u : Terms). trade_up_to c.args.number u l.rest o) c.new-terms.ensures) in
    let some = t.some in
    omega arith

pub fill-requires-clause-within : goal.fill-requires-clause-within
fill-requires-clause-within g c =
    let w = sweep_over c.args.book.now.orders c.args.incoming.now c.args.ref1 c.args.ref2 c.args.widths.now in
    let sound : IsSound w = record { own = c.len.ensures.book.names; rests = c.len.ensures.book.rests } in
    let l = c.loop-next in
    let o = c.in-Inside.order in
    let trade = c.trade_up_to-trade.result in
    let met : next_met (terms_of w) l.rest l.book.orders ≡ Inside o = sym l.invariant.next ∙ c.in-Inside.is in
    let best : best_order Continuous (other_side w) l.book.orders ≡ Some o = (inside (terms_of w) l.rest l.book.orders o met).best in
    let t = turn w c.args.number l.rest l.book.orders c.args.trades.now.trades l.trades.trades c.args.trades.now.room l.trades.room sound l.invariant.progress o met trade
    (c.trade_up_to-trade.ensures ∙ ap (λ (u : Terms). trade_up_to c.args.number u l.rest o) c.new-terms.ensures) in
    let same : t.best ≡ o = same_some (sym t.is_best ∙ best) in
    subst (λ (b : Order). trade.quantity ≤ b.rest) same t.fits

pub push-requires : goal.push-requires
push-requires g c =
    let w = sweep_over c.args.book.now.orders c.args.incoming.now c.args.ref1 c.args.ref2 c.args.widths.now in
    let sound : IsSound w = record { own = c.len.ensures.book.names; rests = c.len.ensures.book.rests } in
    let l = c.loop-next in
    let o = c.in-Inside.order in
    let trade = c.trade_up_to-trade.result in
    let met : next_met (terms_of w) l.rest l.book.orders ≡ Inside o = sym l.invariant.next ∙ c.in-Inside.is in
    let best : best_order Continuous (other_side w) l.book.orders ≡ Some o = (inside (terms_of w) l.rest l.book.orders o met).best in
    let t = turn w c.args.number l.rest l.book.orders c.args.trades.now.trades l.trades.trades c.args.trades.now.room l.trades.room sound l.invariant.progress o met trade
    (c.trade_up_to-trade.ensures ∙ ap (λ (u : Terms). trade_up_to c.args.number u l.rest o) c.new-terms.ensures) in
    t.has_room

pub loop-next-smaller : goal.loop-next-smaller
loop-next-smaller g c =
    let w = sweep_over c.args.book.now.orders c.args.incoming.now c.args.ref1 c.args.ref2 c.args.widths.now in
    let sound : IsSound w = record { own = c.len.ensures.book.names; rests = c.len.ensures.book.rests } in
    let l = c.loop-next in
    let o = c.in-Inside.order in
    let trade = c.trade_up_to-trade.result in
    let met : next_met (terms_of w) l.rest l.book.orders ≡ Inside o = sym l.invariant.next ∙ c.in-Inside.is in
    let best : best_order Continuous (other_side w) l.book.orders ≡ Some o = (inside (terms_of w) l.rest l.book.orders o met).best in
    let t = turn w c.args.number l.rest l.book.orders c.args.trades.now.trades l.trades.trades c.args.trades.now.room l.trades.room sound l.invariant.progress o met trade
    (c.trade_up_to-trade.ensures ∙ ap (λ (u : Terms). trade_up_to c.args.number u l.rest o) c.new-terms.ensures) in
    let some = t.some in
    let within = t.within in
    omega arith

pub loop-next-preserved : goal.loop-next-preserved
loop-next-preserved g c =
    let w = sweep_over c.args.book.now.orders c.args.incoming.now c.args.ref1 c.args.ref2 c.args.widths.now in
    let sound : IsSound w = record { own = c.len.ensures.book.names; rests = c.len.ensures.book.rests } in
    let l = c.loop-next in
    let o = c.in-Inside.order in
    let trade = c.trade_up_to-trade.result in
    let met : next_met (terms_of w) l.rest l.book.orders ≡ Inside o = sym l.invariant.next ∙ c.in-Inside.is in
    let best : best_order Continuous (other_side w) l.book.orders ≡ Some o = (inside (terms_of w) l.rest l.book.orders o met).best in
    let t = turn w c.args.number l.rest l.book.orders c.args.trades.now.trades l.trades.trades c.args.trades.now.room l.trades.room sound l.invariant.progress o met trade
    (c.trade_up_to-trade.ensures ∙ ap (λ (u : Terms). trade_up_to c.args.number u l.rest o) c.new-terms.ensures) in
    let orders : c.fill.new.self.orders ≡ taken_from_best Continuous (other_side w) trade.quantity l.book.orders =
    ap (λ (b : TimeList). b.orders) c.fill.ensures ∙ ap (λ (f : Option Order). taken_from_any f trade.quantity l.book.orders) (sym best) in
    record {
      book = c.fill.ensures ∙ (λ i. record (l.invariant.book i) { orders = taken_from o trade.quantity l.book.orders }) ∙ (λ i. record (c.args.book.now) { orders = ap (λ (b : TimeList). b.orders) (sym c.fill.ensures) i });
      next = c.next_met-next-in-Inside.ensures ∙ ap (λ (u : Terms). next_met u (l.rest - trade.quantity) c.fill.new.self.orders) c.new-terms.ensures;
      progress =
          the_same w c.args.number (l.rest - trade.quantity) (taken_from_best Continuous (other_side w) trade.quantity l.book.orders) c.args.trades.now.trades (l.trades.trades ++ trade ∷ [])
          c.args.trades.now.room (l.trades.room - 1) (l.rest - trade.quantity) c.fill.new.self.orders c.push.new.self.trades c.push.new.self.room refl orders
          (ap (λ (s : TradeList). s.trades) c.push.ensures) (ap (λ (s : TradeList). s.room) c.push.ensures) t.next;
    }

-- where nothing further is met inside the ranges, the sweep has come to its end
at_last : (g : given.Over) (c : goal.After-price_outside g)
    → Ended (sweep_over c.args.book.now.orders c.args.incoming.now c.args.ref1 c.args.ref2 c.args.widths.now) c.args.number c.loop-next.rest c.loop-next.book.orders c.args.trades.now.trades
    c.loop-next.trades.trades c.args.trades.now.room c.loop-next.trades.room
at_last g c =
    let w = sweep_over c.args.book.now.orders c.args.incoming.now c.args.ref1 c.args.ref2 c.args.widths.now in
    let sound : IsSound w = record { own = c.len.ensures.book.names; rests = c.len.ensures.book.rests } in
    let l = c.loop-next in
    ended w c.args.number l.rest l.book.orders c.args.trades.now.trades l.trades.trades c.args.trades.now.room l.trades.room sound l.invariant.progress
    (λ o met. c.in_default.not-Inside o (l.invariant.next ∙ met))

pub returns-clause-orders : goal.returns-clause-orders
returns-clause-orders g c = c.loop-next.invariant.book ∙ (λ i. record (c.args.book.now) { orders = (at_last g c).orders i })

pub returns-clause-trades : goal.returns-clause-trades
returns-clause-trades g c = (at_last g c).trades

pub returns-clause-room : goal.returns-clause-room
returns-clause-room g c = (at_last g c).rooms

pub returns-clause-used_up : goal.returns-clause-used_up
returns-clause-used_up g c = (at_last g c).used_up

pub returns-clause-filled : goal.returns-clause-filled
returns-clause-filled g c = (at_last g c).filled

pub returns-clause-rest : goal.returns-clause-rest
returns-clause-rest g c = (at_last g c).rest

pub returns-clause-interruption : goal.returns-clause-interruption
returns-clause-interruption g c =
    let w = sweep_over c.args.book.now.orders c.args.incoming.now c.args.ref1 c.args.ref2 c.args.widths.now in
    let sound : IsSound w = record { own = c.len.ensures.book.names; rests = c.len.ensures.book.rests } in
    let l = c.loop-next in
    c.price_outside.ensures
    ∙ ap price_outside l.invariant.next
    ∙ sym (at_end (terms_of w) l.rest l.book.orders (λ o met. c.in_default.not-Inside o (l.invariant.next ∙ met))).interruption
    ∙ (at_last g c).interruption
