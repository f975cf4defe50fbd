use Rattle.std.proofs.Common.{◌≡◌, ◌∙◌, length, not, sym, ap, arith, List, true, find}
use Rattle.std.specs.Prelude.{is_some}
use Rattle.xm_book.specs.TimeList.{TimeList}
use Rattle.xm_desk.proofs.Frames.{fewer}
use Rattle.xm_desk.proofs.Shorter.{filter-shorter}
use Rattle.xm_desk.proofs.Changing.{stop-unnamed}
use Rattle.xm_desk.specs.Settled.{Unsettled, came}
use Rattle.xm_rules.specs.Orders.{is_named, removed}
use Rattle.xm_rules.specs.declared.orders.Order.{Order}
use Rattle.xm_rules.specs.declared.orders.Stop.{Stop}
use Rattle.xm_desk.proofs.unsettled.Unsettled.cancel.Goals as goal

pub invariant_of-self : goal.invariant_of-self
invariant_of-self g c =
    let u = c.self.inside in
    let left = c.remove.ensures.left in
    let orders = ap (λ (l : TimeList). length l.orders) left in
    let few = filter-shorter (λ (o : Order). not (is_named c.args.member c.args.reference o)) u.book.orders in
    record {
      opening = c.self.invariant.opening;
      opens = c.self.invariant.opens;
      few = c.self.invariant.few;
      frame =
          fewer (came u.settings u.accepted) u.stops u.pending u.book c.remove.new.self u.tape.room u.tape.room u.ready.value c.self.invariant.frame
          (ap (λ (l : TimeList). l.reserved) left) (ap (λ (l : TimeList). l.adds) left) (omega (arith, orders, few)) (omega (arith, orders, few));
    }

pub invariant_of-self-else-is_none : goal.invariant_of-self-else-is_none
invariant_of-self-else-is_none g c =
    let u = c.self.inside in
    let left = c.remove.ensures.left in
    let orders = ap (λ (l : TimeList). length l.orders) left in
    let few = filter-shorter (λ (o : Order). not (is_named c.args.member c.args.reference o)) u.book.orders in
    record {
      opening = c.self.invariant.opening;
      opens = c.self.invariant.opens;
      few = c.self.invariant.few;
      frame =
          fewer (came u.settings u.accepted) u.stops u.pending u.book c.remove.new.self u.tape.room u.tape.room u.ready.value c.self.invariant.frame
          (ap (λ (l : TimeList). l.reserved) left) (ap (λ (l : TimeList). l.adds) left) (omega (arith, orders, few)) (omega (arith, orders, few));
    }

pub returns-else-is_none : goal.returns-else-is_none
returns-else-is_none g c =
    let u = c.self.inside in
    let v = c.args.self.now in
    let m = c.args.member in
    let r = c.args.reference in
    let leaves : Unsettled → Unsettled = λ w. record w { state = record w.state { orders = removed m r w.state.orders } } in
    let of_book : TimeList → Unsettled = λ l. record {
      state = record { settings = u.settings; accepted = u.accepted; phase = u.phase; orders = l.orders; stops = u.stops.stops; trades = u.tape.trades; sweeps = u.sweeps };
      pending = u.pending.stops;
      ready = u.ready.value;
      seen = record { triggered = u.pending.gone; interruption = u.interruption };
    } in
    let found : is_some (find (is_named m r) v.state.orders) ≡ true = ap (λ (w : Unsettled). is_some (find (is_named m r) w.state.orders)) (sym c.self.view_is) ∙ ap is_some (sym c.remove.ensures.found) ∙ c.if-is_none.ensures in
    ap of_book c.remove.ensures.left ∙ ap leaves c.self.view_is
    ∙ ap (λ (ss : List Stop). let w : Unsettled = record v { state = record v.state { orders = removed m r v.state.orders; stops = ss } } in w) (sym (stop-unnamed v.state m r c.requires found))
