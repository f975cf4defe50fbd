-- The books and events of the worked examples.
use Rattle.std.specs.Prelude.{ℕ, List, [], ◌∷◌}
use Rattle.xm_events.specs.Life.{units_named, with_rests}
use Rattle.xm_events.specs.Seen.{seen_of}
use Rattle.xm_events.specs.Story.{story}
use Rattle.xm_events.specs.SeenStory.{seen_story}
use Rattle.xm_events.specs.declared.events.Event.{Event}
use Rattle.xm_events.specs.declared.events.Event.TheVariants.{Filled}
use Rattle.xm_rules.specs.Examples.{enter, opened, state_after}
use Rattle.xm_rules.specs.Step.{new_trades, step}
use Rattle.xm_rules.specs.declared.commands.Command.{Command}
use Rattle.xm_rules.specs.declared.commands.Command.TheVariants.{Enter, StartOpening, StartIntraday, StartClosing, Uncross}
use Rattle.xm_rules.specs.declared.commands.Condition.{Condition}
use Rattle.xm_rules.specs.declared.commands.Condition.TheVariants.{Plain}
use Rattle.xm_rules.specs.declared.commands.Kind.TheVariants as kind
use Rattle.xm_rules.specs.declared.orders.Restriction.TheVariants.{Free}
use Rattle.xm_rules.specs.declared.orders.Side.{Side}
use Rattle.xm_rules.specs.declared.orders.Side.TheVariants.{Buy, Sell}
use Rattle.xm_rules.specs.declared.orders.TradeKind.{TradeKind}
use Rattle.xm_rules.specs.declared.orders.Validity.TheVariants.{Day, TillCancelled}

-- what happens by a command that follows others
abbrev pub told : List Command → Command → List Event
told commands command = story (state_after commands) command

-- the same, put together from what is seen after it
abbrev pub retold : List Command → Command → List Event
retold commands command =
    let s = state_after commands in
    let t = step s command in
    with_rests (units_named t) (seen_story s command (seen_of s command) (new_trades s t) t)

-- a fill: quantity, price, the member and reference of its order, and what is left of that
abbrev pub fill_of : TradeKind → Side → ℕ → ℕ → ℕ × ℕ → ℕ → Event
fill_of kind side quantity price name rest =
    Filled (record { member = name.0; reference = name.1; side = side; kind = kind; price = price; quantity = quantity; rest = rest })

-- a buy of the first member for the day, on a condition
abbrev pub buy_on : Condition → ℕ → ℕ → Command
buy_on condition limit quantity = Enter 0 1 Buy (kind.Limit limit) quantity Day Free condition

-- two sells of the second member, of which the later one has the better limit
abbrev pub two_sells : List Command
two_sells = opened (enter 1 1 Sell (kind.Limit 1010) 8 ∷ enter 1 2 Sell (kind.Limit 1000) 10 ∷ [])

-- an opening call of two buys and two sells, of which all accept 1001
abbrev pub crossed_call : List Command
crossed_call =
    StartOpening ∷ enter 0 1 Buy (kind.Limit 1002) 30 ∷ enter 0 2 Buy (kind.Limit 1001) 40 ∷ enter 1 1 Sell (kind.Limit 1000) 20 ∷ enter 1 2 Sell (kind.Limit 1001) 30 ∷ []

-- two trades, of which the last is at 1040, and then a sell at 1055
abbrev pub drifted_book : List Command
drifted_book =
    opened (enter 1 1 Sell (kind.Limit 1020) 1 ∷ enter 0 1 Buy (kind.Limit 1020) 1 ∷ enter 1 2 Sell (kind.Limit 1040) 1 ∷ enter 0 2 Buy (kind.Limit 1040) 1
    ∷ enter 1 3 Sell (kind.Limit 1055) 10 ∷ [])

-- two buys, and a sell stop below them
abbrev pub stop_book : List Command
stop_book = opened (enter 0 1 Buy (kind.Limit 995) 5 ∷ enter 0 2 Buy (kind.Limit 990) 20 ∷ enter 1 1 Sell (kind.StopMarket 995) 12 ∷ [])

-- an intraday call at 990, below a sell stop
abbrev pub stop_in_call : List Command
stop_in_call = opened (enter 1 1 Sell (kind.StopMarket 995) 12 ∷ StartIntraday ∷ enter 0 1 Buy (kind.Limit 990) 20 ∷ enter 1 2 Sell (kind.Limit 990) 5 ∷ [])

-- behind the closing call: orders and stops for the day, and others that stay till cancelled
abbrev pub closed_day : List Command
closed_day =
    opened (Enter 0 1 Buy (kind.Limit 990) 10 TillCancelled Free Plain ∷ enter 1 1 Buy (kind.Limit 985) 5 ∷ Enter 0 8 Sell (kind.StopMarket 900) 4 TillCancelled Free Plain
    ∷ enter 0 9 Sell (kind.StopLimit 905 903) 3 ∷ StartClosing ∷ Uncross ∷ [])
