-- The trades of one command, and of all so far.
use Rattle.std.specs.Prelude.{◌≡◌, ◌≤◌, ◌<◌, ◌+◌, ◌*◌, ℕ, List, [], ◌++◌, All, IsTrue, count_by, length}
use Rattle.xm_desk.specs.Settled.{Unsettled, came, places_in, possible_trades}
use Rattle.xm_rules.specs.Commands.{is_in_range}
use Rattle.xm_rules.specs.Orders.{is_named, is_stop_named}
use Rattle.xm_rules.specs.State.{State}
use Rattle.xm_rules.specs.declared.orders.Stop.{Stop}
use Rattle.xm_rules.specs.declared.orders.Trade.{Trade}
use Rattle.xm_rules.specs.declared.settings.TheConstants.{PHASE_COMMANDS_MORE}
use Rattle.xm_ticks.specs.declared.numbers.TheConstants.{MAX_QUANTITY}
use Rattle.xm_book.specs.declared.places.TheConstants.{MAX_PLACES}

-- no quantity is above that of an order
abbrev pub AreSized : List Trade → Type 0
AreSized trades = All (λ (t : Trade). t.quantity ≤ MAX_QUANTITY) trades

-- what leads from the first to the second makes trades, and for each one fewer may be made from then on
pub record Makes (u v : Unsettled) : Type 0 where
  pub trades : List Trade
  pub appended : v.state.trades ≡ u.state.trades ++ trades
  pub sized : AreSized trades
  pub fewer : length trades + possible_trades v ≤ possible_trades u

-- each held or pending stop has units
abbrev pub HaveUnits : List Stop → Type 0
HaveUnits stops = All (λ (stop : Stop). IsTrue (is_in_range stop.quantity)) stops

-- the number of live orders and held stops of a name
abbrev pub uses : ℕ → ℕ → State → ℕ
uses member reference s = count_by (is_named member reference) s.orders + count_by (is_stop_named member reference) s.stops

-- between commands: sweeps, with those to which stops may come, are counted by the entries that came, trades by the accepted
-- commands, and those by the journal's limit; no two orders or stops have one name; each stop has units
pub record IsCounted (s : State) : Type 0 where
  pub accepted : s.accepted ≤ s.settings.limit + PHASE_COMMANDS_MORE
  pub sweeps : s.sweeps + length s.stops ≤ came s.settings s.accepted
  pub number : length s.trades ≤ MAX_PLACES * s.accepted
  pub sized : AreSized s.trades
  pub names : (member reference : ℕ) → uses member reference s ≤ 1
  pub units : HaveUnits s.stops

-- while stops are settled: nothing is ready, the command is not counted yet, and the same holds with the pending stops
pub record CanSettle (u : Unsettled) : Type 0 where
  pub ready : places_in u.ready ≡ []
  pub accepted : u.state.accepted < u.state.settings.limit + PHASE_COMMANDS_MORE
  pub sweeps : u.state.sweeps + length u.state.stops + length u.pending ≤ came u.state.settings u.state.accepted + 1
  pub names : (member reference : ℕ) → uses member reference u.state + count_by (is_stop_named member reference) u.pending ≤ 1
  pub units : HaveUnits u.state.stops
  pub pending_units : HaveUnits u.pending
