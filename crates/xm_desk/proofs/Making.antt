-- What leads from one moment of a command to a later one makes trades.
use Rattle.std.proofs.Common.{◌≡◌, ◌∙◌, ℕ, ◌≤◌, ◌==◌, not, List, [], ◌++◌, append_assoc, append-nil, drop, drop_at, length, refl, sym, ap, arith}
use Rattle.std.proofs.lemmas.List.{length-append}
use Rattle.std.proofs.lemmas.List.Elements.{All-append, All-nil}
use Rattle.xm_desk.specs.Made.{AreSized, Makes}
use Rattle.xm_desk.specs.Settled.{Unsettled, possible_trades}
use Rattle.xm_rules.specs.State.{State}
use Rattle.xm_desk.proofs.Shorter.{filter-shorter}
use Rattle.xm_rules.specs.Commands.{outlasts}
use Rattle.xm_rules.specs.Orders.{is_named, is_stop_named}
use Rattle.xm_rules.specs.Step.{all_cancelled, cancelled, day_ended, new_trades}
use Rattle.xm_rules.specs.declared.orders.Order.{Order}
use Rattle.xm_rules.specs.declared.orders.Stop.{Stop}
use Rattle.xm_rules.specs.declared.orders.Trade.{Trade}
use Rattle.xm_ticks.specs.declared.numbers.TheConstants.{MAX_QUANTITY}

none-sized : AreSized []
none-sized = All-nil (λ (t : Trade). t.quantity ≤ MAX_QUANTITY)

-- none, where the trades are the same
pub makes-none : (u v : Unsettled) → v.state.trades ≡ u.state.trades → possible_trades v ≤ possible_trades u → Makes u v
makes-none u v same fewer = record { trades = []; appended = same ∙ sym (append-nil u.state.trades); sized = none-sized; fewer = omega (arith, fewer) }

-- those of the first step and those of the second
pub makes-both : (u v w : Unsettled) → Makes u v → Makes v w → Makes u w
makes-both u v w first then =
    record {
      trades = first.trades ++ then.trades;
      appended = then.appended ∙ ap (λ (ts : List Trade). ts ++ then.trades) first.appended ∙ append_assoc u.state.trades first.trades then.trades;
      sized = All-append (λ (t : Trade). t.quantity ≤ MAX_QUANTITY) first.trades then.trades first.sized then.sized;
      fewer = omega (arith, length-append first.trades then.trades, first.fewer, then.fewer);
    }

-- the new trades of a state are those that were made
pub new-made : (u v : Unsettled) (m : Makes u v) → new_trades u.state v.state ≡ m.trades
new-made u v m = ap (λ (ts : List Trade). drop (length u.state.trades) ts) m.appended ∙ drop_at u.state.trades m.trades (length u.state.trades) refl

-- what deletes orders and stops makes none
module _ (u v : Unsettled) where
  deletes : (t : State) → v ≡ record u { state = t } → t.trades ≡ u.state.trades → length t.orders ≤ length u.state.orders → length t.stops ≤ length u.state.stops → Makes u v
  deletes t after same orders stops = makes-none u v (ap (λ (w : Unsettled). w.state.trades) after ∙ same) (omega (arith, ap possible_trades after, orders, stops))

  pub makes-cancelled : (m r : ℕ) → v ≡ record u { state = cancelled u.state m r } → Makes u v
  makes-cancelled m r after =
      deletes (cancelled u.state m r) after refl (filter-shorter (λ (o : Order). not (is_named m r o)) u.state.orders) (filter-shorter (λ (s : Stop). not (is_stop_named m r s)) u.state.stops)

  pub makes-all_cancelled : (m : ℕ) → v ≡ record u { state = all_cancelled u.state m } → Makes u v
  makes-all_cancelled m after =
      deletes (all_cancelled u.state m) after refl (filter-shorter (λ (o : Order). not (o.member == m)) u.state.orders) (filter-shorter (λ (s : Stop). not (s.member == m)) u.state.stops)

  pub makes-ended : v ≡ record u { state = day_ended u.state } → Makes u v
  makes-ended after =
      let today = u.state.settings.today in
      deletes (day_ended u.state) after refl (filter-shorter (λ (o : Order). outlasts today o.validity) u.state.orders) (filter-shorter (λ (s : Stop). outlasts today s.validity) u.state.stops)
