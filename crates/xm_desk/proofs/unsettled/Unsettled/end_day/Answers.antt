use Rattle.std.proofs.Common.{filter, length, not, refl, sym, ap, subst, arith}
use Rattle.std.proofs.lemmas.List.Filters.{length-filter_both}
use Rattle.xm_book.specs.TimeList.{TimeList}
use Rattle.xm_desk.specs.Settled.{came}
use Rattle.xm_desk.proofs.Frames.{fewer, moves}
use Rattle.xm_desk.proofs.Shorter.{filter-shorter}
use Rattle.xm_desk.specs.Frame.{IsFramed}
use Rattle.xm_rules.proofs.SettledSums.{split}
use Rattle.xm_rules.specs.Commands.{outlasts}
use Rattle.xm_rules.specs.declared.orders.Order.{Order}
use Rattle.xm_rules.specs.declared.orders.Stop.{Stop}
use Rattle.xm_stops.specs.HeldStops.{HeldStops}
use Rattle.xm_desk.proofs.unsettled.Unsettled.end_day.Goals as goal

pub invariant_of-self : goal.invariant_of-self
invariant_of-self g c =
    let u = c.self.inside in
    let left = c.remove_expired.ensures in
    let orders = ap (λ (l : TimeList). length l.orders) left in
    let few = filter-shorter (λ (o : Order). outlasts u.settings.today o.validity) u.book.orders in
    let stays = λ (stop : Stop). outlasts u.settings.today stop.validity in
    let stay = filter stays u.stops.stops in
    let leave = filter (λ (stop : Stop). not (stays stop)) u.stops.stops in
    let framed =
    fewer (came u.settings u.accepted) u.stops u.pending u.book c.remove_expired.new.self u.tape.room u.tape.room u.ready.value c.self.invariant.frame
    (ap (λ (l : TimeList). l.reserved) left) (ap (λ (l : TimeList). l.adds) left) (omega (arith, orders, few)) (omega (arith, orders, few)) in
    record {
      opening = c.self.invariant.opening;
      opens = c.self.invariant.opens;
      few = c.self.invariant.few;
      frame =
          subst (λ (h : HeldStops). IsFramed (came u.settings u.accepted) c.remove_expired.new.self h c.take_expired.new.pending u.tape.room u.ready.value) (sym c.take_expired.ensures.held)
          (moves (came u.settings u.accepted) c.remove_expired.new.self u.stops stay leave u.pending c.take_expired.new.pending u.tape.room u.ready.value framed
          (λ f. omega (arith, split f stays u.stops.stops)) (omega (arith, length-filter_both stays (λ stop. not (stays stop)) (λ stop. refl) u.stops.stops)) c.take_expired.ensures.pending);
    }
