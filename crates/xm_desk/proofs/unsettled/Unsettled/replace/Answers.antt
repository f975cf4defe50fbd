use Rattle.std.proofs.Common.{◌∙◌, List, ap, arith, length, not}
use Rattle.xm_book.specs.TimeList.{TimeList}
use Rattle.xm_desk.proofs.Changing.{can-come-again, leaves-as-cancelled, without}
use Rattle.xm_desk.proofs.Frames.{fewer}
use Rattle.xm_desk.proofs.Making.{makes-both, makes-none}
use Rattle.xm_desk.proofs.Shorter.{filter-shorter}
use Rattle.xm_desk.specs.Settled.{Unsettled, possible_trades, came}
use Rattle.xm_desk.specs.declared.unsettled.Ready.TheVariants.{Used}
use Rattle.xm_events.specs.Seen.{seen_after}
use Rattle.xm_events.specs.Story.{come_events}
use Rattle.xm_rules.specs.Orders.{is_named}
use Rattle.xm_rules.specs.Settling.{come}
use Rattle.xm_rules.specs.State.{State}
use Rattle.xm_rules.specs.declared.orders.Order.{Order}
use Rattle.xm_desk.proofs.unsettled.Unsettled.replace.Goals as goal

pub invariant_of-self : goal.invariant_of-self
invariant_of-self g c =
    let u = c.self.inside in
    let o = c.args.order.now in
    let left = c.remove.ensures.left in
    let orders = ap (λ (l : TimeList). length l.orders) left in
    let few = filter-shorter (λ (x : Order). not (is_named o.member o.reference x)) u.book.orders in
    record {
      opening = c.self.invariant.opening;
      opens = c.self.invariant.opens;
      few = c.self.invariant.few;
      frame =
          fewer (came u.settings u.accepted) u.stops u.pending u.book c.remove.new.self u.tape.room u.tape.room u.ready.value c.self.invariant.frame
          (ap (λ (l : TimeList). l.reserved) left) (ap (λ (l : TimeList). l.adds) left) (omega (arith, orders, few)) (omega (arith, orders, few));
    }

pub come-requires : goal.come-requires
come-requires g c =
    let u = c.self.inside in
    let o = c.args.order.now in
    let view : List Order → Unsettled = λ orders. record {
      state = record { settings = u.settings; accepted = u.accepted; phase = u.phase; orders = orders; stops = u.stops.stops; trades = u.tape.trades; sweeps = u.sweeps };
      pending = u.pending.stops;
      ready = u.ready.value;
      seen = record { triggered = u.pending.gone; interruption = u.interruption };
    } in
    let left = ap (λ (l : TimeList). view l.orders) c.remove.ensures.left ∙ ap (without o.member o.reference) c.self.view_is in
    can-come-again c.args.self.now (view c.remove.new.self.orders) o left c.requires.ready c.requires.rest c.requires.accepted c.requires.sweeps

pub returns-clause-replaced : goal.returns-clause-replaced
returns-clause-replaced g c =
    let u = c.self.inside in
    let o = c.args.order.now in
    let view : List Order → Unsettled = λ orders. record {
      state = record { settings = u.settings; accepted = u.accepted; phase = u.phase; orders = orders; stops = u.stops.stops; trades = u.tape.trades; sweeps = u.sweeps };
      pending = u.pending.stops;
      ready = u.ready.value;
      seen = record { triggered = u.pending.gone; interruption = u.interruption };
    } in
    let left = ap (λ (l : TimeList). view l.orders) c.remove.ensures.left ∙ ap (without o.member o.reference) c.self.view_is in
    let comes : State → Unsettled → Unsettled = λ s v. record v { state = come s o; ready = Used; seen = seen_after v.seen (come_events s o) } in
    c.come.ensures.come
    ∙ ap (λ (v : Unsettled). comes v.state v) left
    ∙ ap (λ (s : State). comes s c.args.self.now) (leaves-as-cancelled c.args.self.now.state o.member o.reference c.requires.name)

pub returns-clause-made : goal.returns-clause-made
returns-clause-made g c =
    let u = c.self.inside in
    let v = c.args.self.now in
    let o = c.args.order.now in
    let view : List Order → Unsettled = λ orders. record {
      state = record { settings = u.settings; accepted = u.accepted; phase = u.phase; orders = orders; stops = u.stops.stops; trades = u.tape.trades; sweeps = u.sweeps };
      pending = u.pending.stops;
      ready = u.ready.value;
      seen = record { triggered = u.pending.gone; interruption = u.interruption };
    } in
    let w = view c.remove.new.self.orders in
    let left = ap (λ (l : TimeList). view l.orders) c.remove.ensures.left ∙ ap (without o.member o.reference) c.self.view_is in
    let few = filter-shorter (λ (x : Order). not (is_named o.member o.reference x)) v.state.orders in
    makes-both v w c.come.new.self (makes-none v w (ap (λ (x : Unsettled). x.state.trades) left) (omega (arith, ap possible_trades left, few))) c.come.ensures.made
