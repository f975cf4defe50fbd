use Rattle.std.proofs.Common.{◌≡◌, ◌∙◌, ◌++◌, List, [], None, length, append-nil, subst, sym, ap, ap₂, arith}
use Rattle.xm_book.specs.Places.{SamePlaces}
use Rattle.xm_book.specs.declared.places.Place.{Place}
use Rattle.xm_rules.proofs.Opening.{opening-is}
use Rattle.xm_rules.specs.Entries.{Entries}
use Rattle.xm_rules.specs.Opening.{opening}
use Rattle.xm_rules.specs.State.{State}
use Rattle.xm_rules.specs.declared.orders.Order.{Order}
use Rattle.xm_rules.specs.declared.orders.Stop.{Stop}
use Rattle.xm_rules.specs.declared.orders.Trade.{Trade}
use Rattle.xm_rules.specs.declared.phases.Phase.TheVariants.{PreTrading}
use Rattle.xm_stops.specs.HeldStops.{PendingStops}
use Rattle.xm_desk.proofs.Opens.{opens-few}
use Rattle.xm_desk.specs.Frame.{IsFramed, places_of_stops}
use Rattle.xm_desk.specs.Settled.{Unsettled, came}
use Rattle.xm_desk.specs.Tape.{TapeView}
use Rattle.xm_events.specs.Seen.{Seen}
use Rattle.xm_desk.specs.declared.unsettled.Ready.{Ready}
use Rattle.xm_desk.specs.declared.unsettled.Ready.TheVariants.{Nothing}
use Rattle.xm_desk.proofs.unsettled.Unsettled.before_day.Goals as goal

pub invariant_of-result : goal.invariant_of-result
invariant_of-result g c =
    let book = c.entries.inside.book in
    let held = c.entries.inside.stops in
    let same = c.entries.view_is ∙ c.requires.entries in
    let orders = ap (λ (e : Entries). length e.orders) same in
    let stops = ap (λ (e : Entries). length e.stops) same in
    let none : c.reserve-2.new.self.stops ≡ [] = ap (λ (p : PendingStops). p.stops) c.in_ok-reserve-2.ensures.ok ∙ ap (λ (p : PendingStops). p.stops) c.new-pending.ensures in
    let waiting = ap (λ (ss : List Stop). length ss) none in
    let room = ap (λ (p : PendingStops). p.room) c.in_ok-reserve-2.ensures.ok in
    let trades = ap (λ (t : TapeView). t.room) c.in_ok-reserve.ensures.ok in
    let reserved : SamePlaces book.reserved (places_of_stops held.stops ++ places_of_stops c.reserve-2.new.self.stops ++ []) =
    subst (λ (ss : List Stop). SamePlaces book.reserved (places_of_stops held.stops ++ places_of_stops ss ++ [])) (sym none)
    (subst (λ (ps : List Place). SamePlaces book.reserved ps) (sym (append-nil (places_of_stops held.stops)) ∙ sym (append-nil (places_of_stops held.stops ++ []))) c.entries.invariant.reserved) in
    let framed : IsFramed (came c.args.settings 0) book held c.reserve-2.new.self c.reserve.new.self.room Nothing = record {
      reserved = reserved;
      adds = omega (arith, c.entries.invariant.adds, orders, stops, waiting);
      orders = omega (arith, orders, stops, waiting);
      trades = omega (arith, trades, waiting, c.len.ensures.len, c.len-2.ensures.len, c.len-2.ensures.within);
      waiting = omega (arith, room, c.len-3.ensures.len);
      stop = λ stop e. cc;
    } in
    record {
      opening = ap (λ (t : TapeView). t.opening) c.in_ok-reserve.ensures.ok ∙ ap (λ (t : TapeView). t.opening) c.new-tape.ensures;
      opens = c.requires.opens;
      few = omega (arith, opens-few c.args.settings c.requires.opens);
      frame = subst (λ (ready : Ready). IsFramed (came c.args.settings 0) book held c.reserve-2.new.self c.reserve.new.self.room ready) (sym c.of.ensures) framed;
    }

pub returns : goal.returns
returns g c =
    let settings = c.args.settings in
    let same = c.entries.view_is ∙ c.requires.entries in
    let state : List Order → List Stop → List Trade → State = λ orders stops trades.
    record { settings = settings; accepted = 0; phase = PreTrading; orders = orders; stops = stops; trades = trades; sweeps = 0 } in
    let untraded : c.reserve.new.self.trades ≡ [] = ap (λ (t : TapeView). t.trades) c.in_ok-reserve.ensures.ok ∙ ap (λ (t : TapeView). t.trades) c.new-tape.ensures in
    let none : c.reserve-2.new.self.stops ≡ [] = ap (λ (p : PendingStops). p.stops) c.in_ok-reserve-2.ensures.ok ∙ ap (λ (p : PendingStops). p.stops) c.new-pending.ensures in
    let opened : state c.entries.inside.book.orders c.entries.inside.stops.stops c.reserve.new.self.trades ≡ opening settings =
    ap (λ (e : Entries). state e.orders e.stops c.reserve.new.self.trades) same
    ∙ ap (state (opening settings).orders (opening settings).stops) untraded
    ∙ ap (λ (t : State). state t.orders t.stops []) (opening-is settings)
    ∙ sym (opening-is settings) in
    let seen : List Stop → Seen = λ triggered. record { triggered = triggered; interruption = None } in
    let unseen : c.reserve-2.new.self.gone ≡ [] = ap (λ (p : PendingStops). p.gone) c.in_ok-reserve-2.ensures.ok ∙ ap (λ (p : PendingStops). p.gone) c.new-pending.ensures in
    ap (λ (t : State). let u : Unsettled = record { state = t; pending = c.reserve-2.new.self.stops; ready = c.of.result.value; seen = seen c.reserve-2.new.self.gone } in u) opened
    ∙ ap₂ (λ (pending : List Stop) (ready : Ready). let u : Unsettled = record { state = opening settings; pending = pending; ready = ready; seen = seen c.reserve-2.new.self.gone } in u) none c.of.ensures
    ∙ ap (λ (triggered : List Stop). let u : Unsettled = record { state = opening settings; pending = []; ready = Nothing; seen = seen triggered } in u) unseen
