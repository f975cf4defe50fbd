-- Eight commands, again and again, whose quotes are known: a call trades five units at 1,001 ticks, and a second one five at 1,000.
use Rattle.std.specs.Prelude.{◌≡◌, ℕ, ◌+◌, ◌*◌, ◌/◌, ◌%◌, ◌==◌, if◌then◌else◌, List, [], ◌∷◌, Option, Some, None}
use Rattle.xm_board.specs.Journals.{IsLawful, unnumbered}
use Rattle.xm_board.specs.declared.journal.NumberedJournal.{NumberedJournal}
use Rattle.xm_rules.specs.Entries.{none_left}
use Rattle.xm_rules.specs.State.{State, last_auction_price, last_price}
use Rattle.xm_rules.specs.Step.{replay}
use Rattle.xm_rules.specs.Sums.{total_quantity}
use Rattle.xm_rules.specs.declared.commands.Command.{Command}
use Rattle.xm_rules.specs.declared.commands.Command.TheVariants.{Enter, StartIntraday, Uncross}
use Rattle.xm_rules.specs.declared.commands.Condition.TheVariants.{Plain}
use Rattle.xm_rules.specs.declared.commands.Kind.TheVariants as kind
use Rattle.xm_rules.specs.declared.orders.Order.{Order}
use Rattle.xm_rules.specs.declared.orders.OrderKind.TheVariants.{Limit}
use Rattle.xm_rules.specs.declared.orders.Restriction.TheVariants.{Free}
use Rattle.xm_rules.specs.declared.orders.Side.{Side}
use Rattle.xm_rules.specs.declared.orders.Side.TheVariants.{Buy, Sell}
use Rattle.xm_rules.specs.declared.orders.Trade.{Trade}
use Rattle.xm_rules.specs.declared.orders.Validity.TheVariants.{Day}
use Rattle.xm_rules.specs.declared.phases.Auction.TheVariants.{Intraday}
use Rattle.xm_rules.specs.declared.phases.CallStage.TheVariants.{Ordinary}
use Rattle.xm_rules.specs.declared.phases.Phase.{Phase}
use Rattle.xm_rules.specs.declared.phases.Phase.TheVariants.{Call, Continuous}
use Rattle.xm_rules.specs.declared.replies.Quote.{Quote}
use Rattle.xm_rules.specs.declared.settings.DeskSettings.{DeskSettings}

abbrev pub script_settings : DeskSettings
script_settings =
    record { today = 20260105; members = 2; tick = 100; reference = 1000; widths = record { dynamic = 20; statics = 50; wide = 40 }; limit = 30000; carried = none_left }

-- the limit of both orders of a turn's call
abbrev pub call_limit : ℕ → ℕ
call_limit turn = if turn / 4 == 0 then 1001 else 1000

-- the price of the trade before a turn
abbrev pub traded_at : ℕ → ℕ
traded_at turn = if turn / 4 == 1 then 1001 else 1000

abbrev pub scripted_entry : ℕ → Side → ℕ → Command
scripted_entry member side limit = Enter member 1 side (kind.Limit limit) 5 Day Free Plain

-- a call begins, a buy and a sell come in, and it ends
abbrev pub scripted_command : ℕ → Command
scripted_command turn =
    if turn % 4 == 0 then StartIntraday else if turn % 4 == 1 then scripted_entry 0 Buy (call_limit turn) else if turn % 4 == 2 then scripted_entry 1 Sell (call_limit turn) else Uncross

abbrev pub phase_in : ℕ → Phase
phase_in turn = if turn % 4 == 0 then Continuous else Call Intraday Ordinary

abbrev pub best_buy_in : ℕ → Option ℕ
best_buy_in turn = if turn % 4 == 2 then Some (call_limit turn) else if turn % 4 == 3 then Some (call_limit turn) else None

abbrev pub best_sell_in : ℕ → Option ℕ
best_sell_in turn = if turn % 4 == 3 then Some (call_limit turn) else None

-- two commands open the day
abbrev pub version_in : ℕ → ℕ → ℕ
version_in cycle turn = 8 * cycle + turn + 2

abbrev pub traded_in : ℕ → ℕ → ℕ
traded_in cycle turn = 10 * cycle + 5 * (turn / 4)

-- the quote before a turn of a cycle, of which the ninth is the first of the next cycle
abbrev pub quote_before : ℕ → ℕ → Quote
quote_before cycle turn = record {
  version = version_in cycle turn;
  phase = phase_in turn;
  best_buy = best_buy_in turn;
  best_sell = best_sell_in turn;
  ref1 = traded_at turn;
  ref2 = traded_at turn;
  quantity = traded_in cycle turn;
}

abbrev pub order_of : ℕ → Side → ℕ → Order
order_of member side limit = record { member = member; reference = 1; side = side; kind = Limit limit; rest = 5; validity = Day; restriction = Free }

abbrev pub orders_in : ℕ → List Order
orders_in turn =
    if turn % 4 == 2 then order_of 0 Buy (call_limit turn) ∷ []
    else if turn % 4 == 3 then order_of 0 Buy (call_limit turn) ∷ order_of 1 Sell (call_limit turn) ∷ []
    else []

-- the state before a turn, with its trades and the number of price determinations
abbrev pub state_in : ℕ → ℕ → List Trade → ℕ → State
state_in accepted turn trades sweeps =
    record { settings = script_settings; accepted = accepted; phase = phase_in turn; orders = orders_in turn; stops = []; trades = trades; sweeps = sweeps }

pub record IsAt (cycle : ℕ) (turn : ℕ) (s : State) : Type 0 where
  pub trades : List Trade
  pub sweeps : ℕ
  pub is : s ≡ state_in (version_in cycle turn) turn trades sweeps
  pub last : last_price 1000 trades ≡ traded_at turn
  pub auction : last_auction_price 1000 trades ≡ traded_at turn
  pub quantity : total_quantity trades ≡ traded_in cycle turn

-- what is published before a turn of a cycle
pub record Stands (cycle : ℕ) (turn : ℕ) (j : NumberedJournal) : Type 0 where
  pub lawful : IsLawful j
  pub there : IsAt cycle turn (replay (unnumbered j))
