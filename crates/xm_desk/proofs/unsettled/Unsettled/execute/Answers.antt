use Rattle.std.proofs.Common.{◌==◌, if◌then◌else◌, ◌≡◌, ◌∙◌, ◌<◌, ◌+◌, ◌++◌, ◌∷◌, true, List, length, sym, ap, subst, arith}
use Rattle.std.specs.List.{list_any}
use Rattle.xm_book.specs.Places.{SamePlaces, same_place}
use Rattle.xm_book.specs.TimeList.{TimeList}
use Rattle.xm_book.specs.declared.places.Place.{Place}
use Rattle.xm_desk.proofs.Frames.{gives-up, kept-there}
use Rattle.xm_desk.proofs.Sweeping.{sized-swept}
use Rattle.xm_desk.specs.Frame.{IsFramed}
use Rattle.xm_desk.specs.Settled.{Unsettled, possible_trades, trades_in, came}
use Rattle.xm_desk.specs.Tape.{TapeView, swept_by}
use Rattle.xm_desk.specs.declared.unsettled.Ready.{Ready}
use Rattle.xm_desk.specs.declared.unsettled.Ready.TheVariants.{ForOrder, Used}
use Rattle.xm_book.specs.Places.{place_of}
use Rattle.xm_desk.proofs.Sweeping.{is_not_zero, is_zero, phase_by, ready_by, swept-from, swept-view}
use Rattle.xm_events.specs.Seen.{latest, seen_after}
use Rattle.xm_events.specs.Story.{sweep_events}
use Rattle.xm_rules.specs.Settling.{sweep_of, swept}
use Rattle.xm_rules.specs.declared.orders.Order.{Order}
use Rattle.xm_rules.proofs.SweepSizes.{sweep_leaves_no_more}
use Rattle.xm_rules.specs.Sweep.{Sweep, rest_after, sweep_trades}
use Rattle.xm_desk.proofs.unsettled.Unsettled.execute.Goals as goal

pub release-requires : goal.release-requires
release-requires g c =
    let u = c.self.inside in
    let place = c.of.result in
    let ready : u.ready.value ≡ ForOrder place = ap (λ (v : Unsettled). v.ready) c.self.view_is ∙ c.requires.can.joins.ready ∙ ap ForOrder (sym c.of.ensures) in
    let framed = subst (λ (h : Ready). IsFramed (came u.settings u.accepted) u.book u.stops u.pending u.tape.room h) ready c.self.invariant.frame in
    let same = ap (λ (l : TimeList). l.reserved) c.sweep-swept.ensures.orders in
    subst (λ (ps : List Place). list_any (same_place place) ps ≡ true) (sym same) (kept-there u.book.reserved u.stops.stops u.pending.stops place framed.reserved)

pub invariant_of-self : goal.invariant_of-self
invariant_of-self g c =
    let u = c.self.inside in
    let place = c.of.result in
    let ready : u.ready.value ≡ ForOrder place = ap (λ (v : Unsettled). v.ready) c.self.view_is ∙ c.requires.can.joins.ready ∙ ap ForOrder (sym c.of.ensures) in
    let w : Sweep = swept_by u.tape u.book.orders c.args.order.now u.settings.widths in
    let swept = c.sweep-swept.ensures.orders in
    let released = c.release.ensures.rest in
    let orders = ap (λ (l : TimeList). length l.orders) swept in
    let left = ap (λ (l : TimeList). length l.orders) released in
    rw c.of-then-swept-eq0.ensures (record {
      opening = ap (λ (t : TapeView). t.opening) c.sweep-swept.ensures.trades ∙ c.self.invariant.opening;
      opens = c.self.invariant.opens;
      few = c.self.invariant.few;
      frame =
          gives-up (came u.settings u.accepted) u.stops u.pending u.book c.release.new.self u.tape.room c.sweep-swept.new.self.room u.ready.value place ready c.self.invariant.frame
          (subst (λ (ps : List Place). SamePlaces ps (place ∷ c.release.new.self.reserved)) (ap (λ (l : TimeList). l.reserved) swept) c.release.ensures.places)
          (sym (ap (λ (l : TimeList). l.adds) released) ∙ ap (λ (l : TimeList). l.adds) swept)
          (omega (arith, orders, left, c.sweep-swept.ensures.used_up.at_most, c.sweep-swept.ensures.room)) (omega (arith, orders, left, sweep_leaves_no_more w));
    })

pub returns-then-swept-eq0-clause-made : goal.returns-then-swept-eq0-clause-made
returns-then-swept-eq0-clause-made g c =
    let u = c.self.inside in
    let v = c.args.self.now in
    let w : Sweep = swept_by u.tape u.book.orders c.args.order.now u.settings.widths in
    let made = sweep_trades (u.sweeps + 1) w in
    let orders = ap (λ (l : TimeList). length l.orders) c.sweep-swept.ensures.orders in
    let left = ap (λ (l : TimeList). length l.orders) c.release.ensures.rest in
    record {
      trades = made;
      appended = ap (λ (t : TapeView). t.trades) c.sweep-swept.ensures.trades ∙ ap (λ (x : Unsettled). x.state.trades ++ made) c.self.view_is;
      sized = sized-swept (u.sweeps + 1) w c.requires.can.joins.rest;
      fewer = omega (arith, orders, left, c.sweep-swept.ensures.used_up.at_most, ap possible_trades c.self.view_is, ap trades_in c.requires.can.joins.ready, ap (λ (x : Unsettled). trades_in x.ready) c.self.view_is, ap trades_in c.of-then-swept-eq0.ensures);
    }

pub returns-else-swept-eq0-clause-made : goal.returns-else-swept-eq0-clause-made
returns-else-swept-eq0-clause-made g c =
    let u = c.self.inside in
    let w : Sweep = swept_by u.tape u.book.orders c.args.order.now u.settings.widths in
    let made = sweep_trades (u.sweeps + 1) w in
    let orders = ap (λ (l : TimeList). length l.orders) c.sweep-swept.ensures.orders in
    let some : 0 < rest_after w = grind (arith, c.if-swept-eq0.false, c.sweep-swept.ensures.rest) in
    record {
      trades = made;
      appended = ap (λ (t : TapeView). t.trades) c.sweep-swept.ensures.trades ∙ ap (λ (x : Unsettled). x.state.trades ++ made) c.self.view_is;
      sized = sized-swept (u.sweeps + 1) w c.requires.can.joins.rest;
      fewer = omega (arith, orders, c.sweep-swept.ensures.used_up.units_left some, ap possible_trades c.self.view_is);
    }

taken : Order → Unsettled → Unsettled
taken o v = record v { state = swept v.state o; ready = if rest_after (sweep_of v.state o) == 0 then Used else ForOrder (place_of o); seen = seen_after v.seen (sweep_events v.state o) }

pub returns-then-swept-eq0-clause-swept : goal.returns-then-swept-eq0-clause-swept
unfolding taken
returns-then-swept-eq0-clause-swept g c =
    let o = c.args.order.now in
    let sweep = c.sweep-swept.ensures in
    let u = c.self.inside in
    let before : Unsettled = record {
      state = record { settings = u.settings; accepted = u.accepted; phase = u.phase; orders = u.book.orders; stops = u.stops.stops; trades = u.tape.trades; sweeps = u.sweeps };
      pending = u.pending.stops;
      ready = u.ready.value;
      seen = record { triggered = u.pending.gone; interruption = u.interruption };
    } in
    let w = swept_by u.tape u.book.orders o u.settings.widths in
    swept-view before o w (swept-from u.tape u.settings.reference u.book.orders o u.settings.widths c.self.invariant.opening) _ _ _ _ _ (c.phase_after-self-inside.ensures ∙ ap (phase_by c.self.inside.phase) sweep.interruption)
    (sym (ap (λ (l : TimeList). l.orders) c.release.ensures.rest) ∙ ap (λ (l : TimeList). l.orders) sweep.orders) (ap (λ (t : TapeView). t.trades) sweep.trades)
    (c.of-then-swept-eq0.ensures ∙ ap (ready_by o) (sym (is_zero (rest_after w) (sym sweep.rest ∙ c.if-swept-eq0.true))))
    (c.latest-self-inside.ensures ∙ ap (latest c.self.inside.interruption) sweep.interruption)
    ∙ ap (taken o) c.self.view_is

pub returns-else-swept-eq0-clause-swept : goal.returns-else-swept-eq0-clause-swept
unfolding taken
returns-else-swept-eq0-clause-swept g c =
    let o = c.args.order.now in
    let sweep = c.sweep-swept.ensures in
    let u = c.self.inside in
    let before : Unsettled = record {
      state = record { settings = u.settings; accepted = u.accepted; phase = u.phase; orders = u.book.orders; stops = u.stops.stops; trades = u.tape.trades; sweeps = u.sweeps };
      pending = u.pending.stops;
      ready = u.ready.value;
      seen = record { triggered = u.pending.gone; interruption = u.interruption };
    } in
    let w = swept_by u.tape u.book.orders o u.settings.widths in
    let ready = ap (λ (v : Unsettled). v.ready) c.self.view_is ∙ c.requires.can.joins.ready in
    swept-view before o w (swept-from u.tape u.settings.reference u.book.orders o u.settings.widths c.self.invariant.opening) _ _ _ _ _ (c.phase_after-self-inside.ensures ∙ ap (phase_by c.self.inside.phase) sweep.interruption) (ap (λ (l : TimeList). l.orders) sweep.orders)
    (ap (λ (t : TapeView). t.trades) sweep.trades) (ready ∙ ap (ready_by o) (sym (is_not_zero (rest_after w) (λ zero. c.if-swept-eq0.false (sweep.rest ∙ zero))))) (c.latest-self-inside.ensures ∙ ap (latest c.self.inside.interruption) sweep.interruption)
    ∙ ap (taken o) c.self.view_is
