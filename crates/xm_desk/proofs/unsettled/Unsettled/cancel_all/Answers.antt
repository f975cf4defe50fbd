use Rattle.std.proofs.Common.{◌≡◌, ◌∙◌, ◌==◌, List, ap, length, not, rules, arith}
use Rattle.xm_book.specs.TimeList.{TimeList}
use Rattle.xm_desk.proofs.Frames.{fewer}
use Rattle.xm_desk.proofs.Shorter.{filter-shorter}
use Rattle.xm_desk.specs.Settled.{Unsettled, came}
use Rattle.xm_rules.specs.Orders.{without_member, without_stops_of}
use Rattle.xm_rules.specs.declared.orders.Order.{Order}
use Rattle.xm_rules.specs.declared.orders.Stop.{Stop}
use Rattle.xm_desk.proofs.unsettled.Unsettled.cancel_all.Goals as goal

pub invariant_of-self : goal.invariant_of-self
invariant_of-self g c =
    let u = c.self.inside in
    let left = c.remove_all.ensures in
    let orders = ap (λ (l : TimeList). length l.orders) left in
    let few = filter-shorter (λ (o : Order). not (o.member == c.args.member)) u.book.orders in
    record {
      opening = c.self.invariant.opening;
      opens = c.self.invariant.opens;
      few = c.self.invariant.few;
      frame =
          fewer (came u.settings u.accepted) u.stops u.pending u.book c.remove_all.new.self u.tape.room u.tape.room u.ready.value c.self.invariant.frame
          (ap (λ (l : TimeList). l.reserved) left) (ap (λ (l : TimeList). l.adds) left) (omega (arith, orders, few)) (omega (arith, orders, few));
    }

pub returns : goal.returns
returns g c =
    let u = c.self.inside in
    let m = c.args.member in
    let l = c.loop.self in
    let with_stops : List Stop → Unsettled → Unsettled = λ ss w. record w { state = record w.state { stops = ss } } in
    let of_book : TimeList → Unsettled = λ b. record {
      state = record { settings = u.settings; accepted = u.accepted; phase = u.phase; orders = b.orders; stops = u.stops.stops; trades = u.tape.trades; sweeps = u.sweeps };
      pending = u.pending.stops;
      ready = u.ready.value;
      seen = record { triggered = u.pending.gone; interruption = u.interruption };
    } in
    let cancels : Unsettled → Unsettled = λ w. record w { state = record w.state { orders = without_member m w.state.orders; stops = without_stops_of m w.state.stops } } in
    let done : c.cancel_any_stop.new.self ≡ with_stops (without_stops_of m l.state.stops) l = search rules in
    done ∙ ap (λ (w : Unsettled). with_stops (without_stops_of m l.state.stops) w) c.loop.invariant.rest
    ∙ ap (λ (ss : List Stop). with_stops ss (of_book c.remove_all.new.self)) c.loop.invariant.left
    ∙ ap (λ (b : TimeList). with_stops (without_stops_of m u.stops.stops) (of_book b)) c.remove_all.ensures
    ∙ ap cancels c.self.view_is
