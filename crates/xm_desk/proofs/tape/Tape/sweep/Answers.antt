use Rattle.std.proofs.Common.{◌≡◌, ◌+◌, ap, length, sym, ◌∙◌}
use Rattle.xm_book.specs.TimeList.{TimeList}
use Rattle.xm_desk.proofs.Sweeping.{of-no-auction, same-sweep}
use Rattle.xm_desk.proofs.Tapes.{last_auction_price-none}
use Rattle.xm_desk.specs.Tape.{TapeView, swept_by}
use Rattle.xm_match.specs.Meeting.{sweep_over}
use Rattle.xm_rules.specs.State.{last_auction_price, last_price}
use Rattle.xm_rules.specs.Sweep.{Sweep, filled, orders_after_sweep, rest_after, sweep_trades}
use Rattle.xm_desk.proofs.tape.Tape.sweep.Given.{Over}
use Rattle.xm_desk.proofs.tape.Tape.sweep.Goals as goal

pub invariant_of-self : goal.invariant_of-self
invariant_of-self g c =
    let t = c.self.inside in
    let w : Sweep = sweep_over c.args.book.now.orders c.args.incoming.now t.last t.last_auction c.args.widths.now in
    let made = sweep_trades c.args.number w in
    let kept = last_auction_price-none t.opening t.trades.trades made (of-no-auction c.args.number w) in
    record {
      last = c.last_price-self-inside.ensures ∙ ap (last_price t.opening) c.as_slice.ensures.trades;
      last_auction = c.self.invariant.last_auction ∙ sym kept ∙ ap (last_auction_price t.opening) (sym c.sweep-swept.ensures.trades);
    }

-- the sweep is that of the tape
same : (g : Over) (c : goal.After-self-1 g)
    → sweep_over c.args.book.now.orders c.args.incoming.now c.self.inside.last c.self.inside.last_auction c.args.widths.now ≡ swept_by c.args.self.now c.args.book.now.orders c.args.incoming.now c.args.widths.now
same g c =
    let t = c.self.inside in
    let view : TapeView = record { opening = t.opening; trades = t.trades.trades; room = t.trades.room } in
    same-sweep view t.last t.last_auction c.args.book.now.orders c.args.incoming.now c.args.widths.now c.self.invariant.last c.self.invariant.last_auction
    ∙ ap (λ (v : TapeView). swept_by v c.args.book.now.orders c.args.incoming.now c.args.widths.now) c.self.view_is

pub returns-clause-orders : goal.returns-clause-orders
returns-clause-orders g c =
    let b = c.args.book.now in
    c.sweep-swept.ensures.orders ∙ ap (λ (w : Sweep). let l : TimeList = record { orders = orders_after_sweep w; reserved = b.reserved; adds = b.adds } in l) (same g c)

pub returns-clause-room : goal.returns-clause-room
returns-clause-room g c =
    let left = c.sweep-swept.new.trades.room in
    ap (λ (w : Sweep). left + length (sweep_trades c.args.number w)) (sym (same g c)) ∙ c.sweep-swept.ensures.room ∙ ap (λ (v : TapeView). v.room) c.self.view_is

pub returns-clause-filled : goal.returns-clause-filled
returns-clause-filled g c = c.sweep-swept.ensures.filled ∙ ap filled (same g c)

pub returns-clause-rest : goal.returns-clause-rest
returns-clause-rest g c = c.sweep-swept.ensures.rest ∙ ap rest_after (same g c)
