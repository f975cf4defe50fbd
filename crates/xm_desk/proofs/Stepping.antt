-- A command is taken by what it does, by settling, and by counting it.
use Rattle.std.proofs.Common.{◌≡◌, ◌∙◌, ℕ, ◌+◌, ◌≤◌, List, [], ◌++◌, None, true, All, length, count_by, refl, ap, sym, subst, arith}
use Rattle.std.proofs.lemmas.List.{length-append}
use Rattle.std.proofs.lemmas.List.Elements.{All-append, All-nil}
use Rattle.xm_book.specs.TimeList.{TimeList}
use Rattle.xm_desk.specs.Frame.{IsFramed}
use Rattle.xm_desk.specs.Made.{AreSized, CanSettle, IsCounted, Makes}
use Rattle.xm_desk.specs.Settled.{Unsettled, came, joined_in, places_in, once_used, possible_trades, trades_in}
use Rattle.xm_desk.specs.declared.unsettled.Ready.{Ready}
use Rattle.xm_desk.specs.declared.unsettled.Ready.TheVariants.{Nothing, ForStop, ForOrder, Used, OneTrade}
use Rattle.xm_events.proofs.Seeing.{story-seen}
use Rattle.xm_events.specs.Seen.{Seen, seen_after}
use Rattle.xm_events.specs.Story.{act_events, settle_events, story}
use Rattle.xm_rules.proofs.Accepted.{accepted-below}
use Rattle.xm_rules.proofs.Following.{act-follows}
use Rattle.xm_rules.proofs.Kept.{act-keeps, step-counts}
use Rattle.xm_rules.proofs.OneName.{act-uses}
use Rattle.xm_rules.specs.Commands.{is_in_range}
use Rattle.xm_rules.specs.Orders.{is_stop_named}
use Rattle.xm_rules.specs.Refusals.{refusal_of}
use Rattle.xm_rules.specs.Settling.{settle}
use Rattle.xm_rules.specs.State.{State}
use Rattle.xm_rules.specs.Step.{act, step}
use Rattle.xm_rules.specs.declared.commands.Command.{Command}
use Rattle.xm_rules.specs.declared.orders.Order.{Order}
use Rattle.xm_rules.specs.declared.orders.Stop.{Stop}
use Rattle.xm_rules.specs.declared.orders.Trade.{Trade}
use Rattle.xm_rules.specs.declared.settings.DeskSettings.{DeskSettings}
use Rattle.xm_stops.specs.HeldStops.{HeldStops, PendingStops}
use Rattle.xm_ticks.specs.declared.numbers.TheConstants.{MAX_JOURNAL_LIMIT, MAX_QUANTITY}
use Rattle.xm_book.specs.declared.places.TheConstants.{MAX_PLACES}
use Rattle.xm_rules.specs.declared.carried.TheConstants.{MAX_CARRIED}
use Rattle.xm_rules.specs.declared.settings.TheConstants.{PHASE_COMMANDS_MORE}

once_used-none : (ready : Ready) → places_in (once_used ready) ≡ []
once_used-none Nothing = refl
once_used-none OneTrade = refl
once_used-none (ForOrder place) = refl
once_used-none (ForStop stop) = refl
once_used-none Used = refl

module _ (u : Unsettled) (command : Command) (settled : u.pending ≡ []) (lawful : refusal_of u.state command ≡ None) (counted : IsCounted u.state) where
  abbrev acted : Unsettled
  acted = record u { state = act u.state command; ready = once_used u.ready; seen = seen_after u.seen (act_events u.state command) }

  none : length u.pending ≡ 0
  none = ap (λ (stops : List Stop). length stops) settled

  -- what it reaches can be settled
  acted-standing : CanSettle acted
  acted-standing =
      let s = u.state in
      let keeps = act-keeps s command in
      let follows = act-follows s command lawful in
      record {
        ready = once_used-none u.ready;
        accepted = omega (arith, accepted-below s command lawful, keeps.accepted, ap (λ (x : DeskSettings). x.limit) keeps.settings);
        sweeps = omega (arith, follows.numbers, counted.sweeps, keeps.accepted, none, ap (λ (x : DeskSettings). came x 0) keeps.settings);
        names = λ m r. (let before = counted.names m r in
            let l = act-uses m r s command lawful (omega (arith, before)) in
            omega (arith, l, ap (λ (stops : List Stop). count_by (is_stop_named m r) stops) settled));
        units = follows.units counted.units;
        pending_units = subst (λ (stops : List Stop). All (λ (stop : Stop). is_in_range stop.quantity ≡ true) stops) (sym settled) (All-nil (λ (stop : Stop). is_in_range stop.quantity ≡ true));
      }

  pub can-settle : (a : Unsettled) → a ≡ acted → CanSettle a
  can-settle a is = subst CanSettle (sym is) acted-standing

  -- and it is counted
  pub stepped : (a t n : Unsettled) → a ≡ acted → t ≡ record a { state = settle a.state a.pending; pending = []; ready = t.ready; seen = seen_after a.seen (settle_events a.state a.pending) }
      → n ≡ record t { state = record t.state { accepted = t.state.accepted + 1 }; ready = Nothing } → n ≡ record u { state = step u.state command; ready = Nothing; seen = seen_after u.seen (story u.state command) }
  stepped a t n is settles counts =
      let one_more : State → State = λ s. record s { accepted = s.accepted + 1 } in
      let done : State → List Stop → Seen → Unsettled = λ s stops seen. record { state = s; pending = stops; ready = Nothing; seen = seen } in
      let s = act u.state command in
      counts
      ∙ ap (λ (w : Unsettled). done (one_more w.state) w.pending w.seen) settles
      ∙ ap (λ (w : Unsettled). done (one_more (settle w.state w.pending)) [] (seen_after w.seen (settle_events w.state w.pending))) is
      ∙ ap (λ (stops : List Stop). done (one_more (settle s stops)) [] (seen_after (seen_after u.seen (act_events u.state command)) (settle_events s stops))) settled
      ∙ ap (λ (t : State). done t [] (seen_after (seen_after u.seen (act_events u.state command)) (settle_events s []))) (sym (step-counts u.state command))
      ∙ ap (λ (stops : List Stop). done (step u.state command) stops (seen_after (seen_after u.seen (act_events u.state command)) (settle_events s []))) (sym settled)
      ∙ ap (done (step u.state command) u.pending) (sym (story-seen u.seen u.state command))

-- ---- what it trades

ready_once : (ready : Ready) → joined_in ready + trades_in ready ≤ 1
ready_once Nothing = omega arith
ready_once OneTrade = omega arith
ready_once (ForOrder place) = omega arith
ready_once (ForStop stop) = omega arith
ready_once Used = omega arith

-- no more trades are possible than a book has orders
pub few-possible : (u : Unsettled) (accepted limit room : ℕ) (book : TimeList) (held : HeldStops) (pending : PendingStops) (ready : Ready) → IsFramed accepted book held pending room ready
    → u.state.orders ≡ book.orders → u.state.stops ≡ held.stops → u.pending ≡ pending.stops → u.ready ≡ ready → accepted ≤ MAX_CARRIED + limit + PHASE_COMMANDS_MORE → limit ≤ MAX_JOURNAL_LIMIT → possible_trades u ≤ MAX_PLACES
few-possible u accepted limit room book held pending ready f orders stops waiting is_ready below few =
    omega (
      arith,
      f.orders,
      ready_once ready,
      ap (λ (os : List Order). length os) orders,
      ap (λ (ss : List Stop). length ss) stops,
      ap (λ (ss : List Stop). length ss) waiting,
      ap trades_in is_ready,
      below,
      few,
    )

module _ (u n : Unsettled) (m : Makes u n) (few : possible_trades u ≤ MAX_PLACES) where
  -- the state that it leads to is counted
  pub counted-after : (t : Unsettled) → n ≡ record t { state = record t.state { accepted = t.state.accepted + 1 }; ready = Nothing } → t.pending ≡ [] → CanSettle t → IsCounted u.state
      → t.state.accepted ≡ u.state.accepted → IsCounted n.state
  counted-after t counts settled can was same =
      let none = ap (λ (stops : List Stop). length stops) settled in
      let s : State = record t.state { accepted = t.state.accepted + 1 } in
      let trades : t.state.trades ≡ u.state.trades ++ m.trades = sym (ap (λ (w : Unsettled). w.state.trades) counts) ∙ m.appended in
      subst IsCounted (sym (ap (λ (w : Unsettled). w.state) counts)) (record {
        accepted = omega (arith, can.accepted);
        sweeps = omega (arith, can.sweeps, none);
        number = omega (arith, ap (λ (ts : List Trade). length ts) trades, length-append u.state.trades m.trades, m.fewer, few, was.number, same);
        sized = subst AreSized (sym trades) (All-append (λ (t : Trade). t.quantity ≤ MAX_QUANTITY) u.state.trades m.trades was.sized m.sized);
        names = λ member reference. (let l = can.names member reference in omega (arith, l));
        units = can.units;
      })
