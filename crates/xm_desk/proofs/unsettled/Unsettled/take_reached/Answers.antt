use Rattle.std.proofs.Common.{filter, not, refl, sym, subst}
use Rattle.std.proofs.lemmas.List.Filters.{length-filter_both}
use Rattle.xm_desk.specs.Settled.{came}
use Rattle.xm_desk.proofs.Frames.{moves}
use Rattle.xm_desk.specs.Frame.{IsFramed}
use Rattle.xm_rules.proofs.SettledSums.{split}
use Rattle.xm_rules.specs.Settling.{is_reached}
use Rattle.xm_rules.specs.declared.orders.Stop.{Stop}
use Rattle.xm_stops.specs.HeldStops.{HeldStops}
use Rattle.xm_desk.proofs.unsettled.Unsettled.take_reached.Goals as goal

pub invariant_of-self : goal.invariant_of-self
invariant_of-self g c =
    let u = c.self.inside in
    let last = c.last_price-last.result in
    let gone = is_reached last in
    let stay = λ (stop : Stop). not (is_reached last stop) in
    record {
      opening = c.self.invariant.opening;
      opens = c.self.invariant.opens;
      few = c.self.invariant.few;
      frame =
          subst (λ (h : HeldStops). IsFramed (came u.settings u.accepted) u.book h c.take_reached.new.pending u.tape.room u.ready.value) (sym c.take_reached.ensures.held)
          (moves (came u.settings u.accepted) u.book u.stops (filter stay u.stops.stops) (filter gone u.stops.stops) u.pending c.take_reached.new.pending u.tape.room u.ready.value c.self.invariant.frame
          (λ f. split f gone u.stops.stops) (length-filter_both gone stay (λ stop. refl) u.stops.stops) c.take_reached.ensures.pending);
    }
