use Rattle.std.proofs.Common.{◌≡◌, ◌∙◌, ◌+◌, ◌≤◌, List, Some, length, max, rules, refl, sym, ap, subst, arith}
use Rattle.xm_book.specs.Places.{place_of}
use Rattle.xm_book.specs.TimeList.{Reserves, TimeList}
use Rattle.xm_book.specs.declared.places.Place.{Place}
use Rattle.xm_desk.proofs.Frames.{grown, keeps-stop}
use Rattle.xm_desk.specs.Frame.{IsFramed}
use Rattle.xm_desk.specs.Settled.{Unsettled, came}
use Rattle.xm_desk.specs.Tape.{TapeView}
use Rattle.xm_desk.specs.declared.unsettled.Ready.TheVariants.{Nothing}
use Rattle.xm_rules.specs.declared.orders.Stop.{Stop}
use Rattle.xm_stops.specs.HeldStops.{HeldStops, PendingStops}
use Rattle.xm_desk.proofs.unsettled.Unsettled.reserve_stop.Goals as goal

pub invariant_of-self-in_err-reserve-2 : goal.invariant_of-self-in_err-reserve-2
invariant_of-self-in_err-reserve-2 g c =
    let u = c.self.inside in
    let ready : u.ready.value ≡ Nothing = ap (λ (v : Unsettled). v.ready) c.self.view_is ∙ c.requires.ready in
    let none = ap (λ (v : Unsettled). length v.pending) c.self.view_is ∙ ap (λ (ss : List Stop). length ss) c.requires.settled in
    let taped : c.reserve.new.self ≡ record u.tape { room = c.len.result + c.len-2.result + 1 } = search rules in
    let room = ap (λ (t : TapeView). t.room) taped in
    let enough : length u.book.orders + length u.stops.stops + length u.pending.stops + 1 ≤ c.reserve.new.self.room = omega (arith, room, none, c.len.ensures.len, c.len-2.ensures.len) in
    let opening = ap (λ (t : TapeView). t.opening) taped ∙ c.self.invariant.opening in
    let same : c.reserve-2.new.self ≡ u.pending = search rules in
    record {
      opening = opening;
      opens = c.self.invariant.opens;
      few = c.self.invariant.few;
      frame =
          subst (λ (p : PendingStops). IsFramed (came u.settings u.accepted) u.book u.stops p c.reserve.new.self.room u.ready.value) (sym same)
          (grown (came u.settings u.accepted) u.stops u.pending u.ready.value ready u.book u.stops u.pending u.tape.room c.reserve.new.self.room c.self.invariant.frame refl refl (omega arith) (omega (arith, enough)));
    }

pub invariant_of-self-in_err-reserve_one : goal.invariant_of-self-in_err-reserve_one
invariant_of-self-in_err-reserve_one g c =
    let u = c.self.inside in
    let ready : u.ready.value ≡ Nothing = ap (λ (v : Unsettled). v.ready) c.self.view_is ∙ c.requires.ready in
    let none = ap (λ (v : Unsettled). length v.pending) c.self.view_is ∙ ap (λ (ss : List Stop). length ss) c.requires.settled in
    let taped : c.reserve.new.self ≡ record u.tape { room = c.len.result + c.len-2.result + 1 } = search rules in
    let room = ap (λ (t : TapeView). t.room) taped in
    let enough : length u.book.orders + length u.stops.stops + length u.pending.stops + 1 ≤ c.reserve.new.self.room = omega (arith, room, none, c.len.ensures.len, c.len-2.ensures.len) in
    let opening = ap (λ (t : TapeView). t.opening) taped ∙ c.self.invariant.opening in
    let pending : c.reserve-2.new.self ≡ record u.pending { room = max u.pending.room (c.len-3.result + 1) } = search rules in
    let waiting = ap (λ (p : PendingStops). p.room) pending in
    let still = ap (λ (p : PendingStops). p.stops) pending in
    let same : c.reserve_one.new.self ≡ u.stops = search rules in
    record {
      opening = opening;
      opens = c.self.invariant.opens;
      few = c.self.invariant.few;
      frame =
          subst (λ (h : HeldStops). IsFramed (came u.settings u.accepted) u.book h c.reserve-2.new.self c.reserve.new.self.room u.ready.value) (sym same)
          (grown (came u.settings u.accepted) u.stops u.pending u.ready.value ready u.book u.stops c.reserve-2.new.self u.tape.room c.reserve.new.self.room c.self.invariant.frame refl still (omega (arith, waiting)) (omega (arith, enough)));
    }

pub invariant_of-self-in_err-reserve_for : goal.invariant_of-self-in_err-reserve_for
invariant_of-self-in_err-reserve_for g c =
    let u = c.self.inside in
    let ready : u.ready.value ≡ Nothing = ap (λ (v : Unsettled). v.ready) c.self.view_is ∙ c.requires.ready in
    let none = ap (λ (v : Unsettled). length v.pending) c.self.view_is ∙ ap (λ (ss : List Stop). length ss) c.requires.settled in
    let taped : c.reserve.new.self ≡ record u.tape { room = c.len.result + c.len-2.result + 1 } = search rules in
    let room = ap (λ (t : TapeView). t.room) taped in
    let enough : length u.book.orders + length u.stops.stops + length u.pending.stops + 1 ≤ c.reserve.new.self.room = omega (arith, room, none, c.len.ensures.len, c.len-2.ensures.len) in
    let opening = ap (λ (t : TapeView). t.opening) taped ∙ c.self.invariant.opening in
    let pending : c.reserve-2.new.self ≡ record u.pending { room = max u.pending.room (c.len-3.result + 1) } = search rules in
    let waiting = ap (λ (p : PendingStops). p.room) pending in
    let still = ap (λ (p : PendingStops). p.stops) pending in
    let held : c.reserve_one.new.self ≡ record u.stops { ready = Some c.args.stop.now } = search rules in
    let same : c.reserve_for.new.self ≡ u.book = search rules in
    record {
      opening = opening;
      opens = c.self.invariant.opens;
      few = c.self.invariant.few;
      frame =
          subst (λ (b : TimeList). IsFramed (came u.settings u.accepted) b c.reserve_one.new.self c.reserve-2.new.self c.reserve.new.self.room u.ready.value) (sym same)
          (grown (came u.settings u.accepted) u.stops u.pending u.ready.value ready u.book c.reserve_one.new.self c.reserve-2.new.self u.tape.room c.reserve.new.self.room c.self.invariant.frame (ap (λ (h : HeldStops). h.stops) held) still (omega (arith, waiting)) (omega (arith, enough)));
    }

pub invariant_of-self-2 : goal.invariant_of-self-2
invariant_of-self-2 g c =
    let u = c.self.inside in
    let ready : u.ready.value ≡ Nothing = ap (λ (v : Unsettled). v.ready) c.self.view_is ∙ c.requires.ready in
    let none = ap (λ (v : Unsettled). length v.pending) c.self.view_is ∙ ap (λ (ss : List Stop). length ss) c.requires.settled in
    let taped : c.reserve.new.self ≡ record u.tape { room = c.len.result + c.len-2.result + 1 } = search rules in
    let room = ap (λ (t : TapeView). t.room) taped in
    let enough : length u.book.orders + length u.stops.stops + length u.pending.stops + 1 ≤ c.reserve.new.self.room = omega (arith, room, none, c.len.ensures.len, c.len-2.ensures.len) in
    let opening = ap (λ (t : TapeView). t.opening) taped ∙ c.self.invariant.opening in
    let pending : c.reserve-2.new.self ≡ record u.pending { room = max u.pending.room (c.len-3.result + 1) } = search rules in
    let waiting = ap (λ (p : PendingStops). p.room) pending in
    let still = ap (λ (p : PendingStops). p.stops) pending in
    let stop = c.args.stop.now in
    let held : c.reserve_one.new.self ≡ record u.stops { ready = Some stop } = search rules in
    let is = c.of.ensures ∙ ap place_of c.order_of_stop.ensures in
    let more : Reserves c.of.result u.book c.reserve_for.new.self = search rules in
    let framed = grown (came u.settings u.accepted) u.stops u.pending u.ready.value ready u.book c.reserve_one.new.self c.reserve-2.new.self u.tape.room c.reserve.new.self.room c.self.invariant.frame (ap (λ (h : HeldStops). h.stops) held) still (omega (arith, waiting)) (omega (arith, enough)) in
    let same = ap (λ (h : HeldStops). length h.stops) held in
    rw c.of-2.ensures (record {
      opening = opening;
      opens = c.self.invariant.opens;
      few = c.self.invariant.few;
      frame =
          keeps-stop (came u.settings u.accepted) c.reserve_one.new.self c.reserve-2.new.self u.ready.value ready u.book c.reserve_for.new.self c.reserve.new.self.room framed
          (omega (arith, same, ap (λ (ss : List Stop). length ss) still, enough)) stop (subst (λ (p : Place). Reserves p u.book c.reserve_for.new.self) is more)
          (ap (λ (h : HeldStops). h.ready) held) (omega (arith, same, waiting, c.len-3.ensures.len));
    })
