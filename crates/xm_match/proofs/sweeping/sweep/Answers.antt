use Rattle.std.proofs.Common.{◌≡◌, false, sym, ◌∙◌, arith}
use Rattle.xm_match.specs.Meeting.{meets_any, sweep_over}
use Rattle.xm_match.proofs.Cuts.{IsSound}
use Rattle.xm_match.proofs.Ending.{Ended}
use Rattle.xm_match.proofs.Unmet.{not_interrupted, unmet}
use Rattle.xm_match.proofs.sweeping.sweep.Given as given
use Rattle.xm_match.proofs.sweeping.sweep.Goals as goal

-- no order is met, so the sweep is at its end
none : (g : given.Over) (c : goal.Else-meets_any g) → meets_any c.args.book.now.orders c.args.incoming.now ≡ false
none g c = sym c.meets_any.ensures ∙ c.if-meets_any.false

at_once : (g : given.Over) (c : goal.Else-meets_any g)
    → Ended (sweep_over c.args.book.now.orders c.args.incoming.now c.args.ref1 c.args.ref2 c.args.widths.now) c.args.number c.args.incoming.now.rest c.args.book.now.orders
    c.args.trades.now.trades c.args.trades.now.trades c.args.trades.now.room c.args.trades.now.room
at_once g c =
    let w = sweep_over c.args.book.now.orders c.args.incoming.now c.args.ref1 c.args.ref2 c.args.widths.now in
    let sound : IsSound w = record { own = c.len.ensures.book.names; rests = c.len.ensures.book.rests } in
    unmet w c.args.number c.args.trades.now.trades c.args.trades.now.room sound c.requires.room (none g c)

pub returns-clause-orders : goal.returns-clause-orders
returns-clause-orders g c = (λ i. record (c.args.book.now) { orders = (at_once g c).orders i })

pub returns-clause-trades : goal.returns-clause-trades
returns-clause-trades g c = (at_once g c).trades

pub returns-clause-room : goal.returns-clause-room
returns-clause-room g c = (at_once g c).rooms

pub returns-clause-used_up : goal.returns-clause-used_up
returns-clause-used_up g c = (at_once g c).used_up

pub returns-clause-filled : goal.returns-clause-filled
returns-clause-filled g c = let e = (at_once g c).filled in omega (arith, e)

pub returns-clause-rest : goal.returns-clause-rest
returns-clause-rest g c = (at_once g c).rest

pub returns-clause-interruption : goal.returns-clause-interruption
returns-clause-interruption g c =
    let w = sweep_over c.args.book.now.orders c.args.incoming.now c.args.ref1 c.args.ref2 c.args.widths.now in
    sym (not_interrupted w (none g c)) ∙ (at_once g c).interruption
