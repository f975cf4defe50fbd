-- The text of the end-of-day statement.
use Rattle.std.specs.Prelude.{codes, ℕ, ℤ, pos, ◌+◌, ◌-◌, ◌*◌, ◌+ℤ◌, ◌-ℤ◌, if◌then◌else◌, List, [], ◌∷◌, ◌++◌, length, replicate, slice_get, unwrap_or}
use Rattle.std.specs.Fmt.{decimal, signed_decimal}
use Rattle.std.specs.List.{flat_map, range_with_len}
use Rattle.xm_rules.specs.State.{State, ref1, ref2}
use Rattle.xm_rules.specs.Sums.{has_traded, net, paid, received, total_quantity, total_money}
use Rattle.xm_rules.specs.declared.orders.Order.{Order}
use Rattle.xm_rules.specs.declared.orders.OrderKind.{OrderKind}
use Rattle.xm_rules.specs.declared.orders.OrderKind.TheVariants.{Market, Limit}
use Rattle.xm_rules.specs.declared.orders.Restriction.{Restriction}
use Rattle.xm_rules.specs.declared.orders.Restriction.TheVariants.{Free, OpeningOnly, AuctionsOnly, ClosingOnly}
use Rattle.xm_rules.specs.declared.orders.Side.{Side}
use Rattle.xm_rules.specs.declared.orders.Side.TheVariants.{Buy, Sell}
use Rattle.xm_rules.specs.declared.orders.Stop.{Stop}
use Rattle.xm_rules.specs.declared.orders.Trade.{Trade}
use Rattle.xm_rules.specs.declared.orders.TradeKind.{TradeKind}
use Rattle.xm_rules.specs.declared.orders.TradeKind.TheVariants as made
use Rattle.xm_rules.specs.declared.orders.Validity.{Validity}
use Rattle.xm_rules.specs.declared.orders.Validity.TheVariants.{Day, TillDate, TillCancelled}
use Rattle.xm_rules.specs.declared.phases.Auction.TheVariants as auction
use Rattle.xm_rules.specs.declared.phases.CallStage.TheVariants.{Ordinary, Interrupted, Extended}
use Rattle.xm_rules.specs.declared.phases.Phase.{Phase}
use Rattle.xm_rules.specs.declared.phases.Phase.TheVariants as phase
use Rattle.xm_ticks.specs.Writing.{price_text, money_text}
use Rattle.xm_files.specs.Names.{NameLists}

-- at least eight digits, by leading zeros
abbrev pub date_text : ℕ → List ℕ
date_text date = replicate (8 - length (decimal date)) 48 ++ decimal date

abbrev pub phase_word : Phase → List ℕ
phase_word phase.PreTrading = codes "pre-trading"
phase_word (phase.Call auction.Opening Ordinary) = codes "opening-call"
phase_word (phase.Call auction.Opening Interrupted) = codes "opening-interrupted"
phase_word (phase.Call auction.Opening Extended) = codes "opening-extended"
phase_word (phase.Call auction.Intraday Ordinary) = codes "intraday-call"
phase_word (phase.Call auction.Intraday Interrupted) = codes "intraday-interrupted"
phase_word (phase.Call auction.Intraday Extended) = codes "intraday-extended"
phase_word (phase.Call auction.Closing Ordinary) = codes "closing-call"
phase_word (phase.Call auction.Closing Interrupted) = codes "closing-interrupted"
phase_word (phase.Call auction.Closing Extended) = codes "closing-extended"
phase_word (phase.Call auction.Interruption Ordinary) = codes "interruption-call"
phase_word (phase.Call auction.Interruption Interrupted) = codes "interruption-interrupted"
phase_word (phase.Call auction.Interruption Extended) = codes "interruption-extended"
phase_word phase.Continuous = codes "continuous"
phase_word phase.PostTrading = codes "post-trading"
phase_word phase.Ended = codes "ended"

-- a trade of an auction is named by the call at whose end it was made
abbrev pub trade_word : TradeKind → List ℕ
trade_word made.Continuous = phase_word phase.Continuous
trade_word (made.Auction auction stage) = phase_word (phase.Call auction stage)

abbrev pub side_word : Side → List ℕ
side_word Buy = codes "buy"
side_word Sell = codes "sell"

abbrev pub validity_text : Validity → List ℕ
validity_text Day = codes "day"
validity_text (TillDate date) = date_text date
validity_text TillCancelled = codes "gtc"

abbrev pub restriction_word : Restriction → List ℕ
restriction_word Free = codes "free"
restriction_word OpeningOnly = codes "opening"
restriction_word AuctionsOnly = codes "auctions"
restriction_word ClosingOnly = codes "closing"

abbrev pub limit_text : ℕ → OrderKind → List ℕ
limit_text tick Market = codes "market"
limit_text tick (Limit price) = price_text price tick

-- the name with this index
abbrev pub name_at : List (List ℕ) → ℕ → List ℕ
name_at names index = unwrap_or (slice_get names index) []

-- the name of a member, and the reference that it gave an order
abbrev pub party_text : NameLists → ℕ → ℕ → List ℕ
party_text names member reference = name_at names.members member ++ codes " " ++ decimal reference

abbrev pub trade_line : NameLists → ℕ → Trade → List ℕ
trade_line names tick t =
    codes "TRADE " ++ decimal t.sweep ++ codes " " ++ trade_word t.kind ++ codes " " ++ price_text t.price tick ++ codes " " ++ decimal t.quantity
    ++ codes " " ++ party_text names t.buyer t.buy_ref ++ codes " " ++ party_text names t.seller t.sell_ref ++ codes "\n"

abbrev pub order_line : NameLists → ℕ → Order → List ℕ
order_line names tick o =
    codes "ORDER " ++ party_text names o.member o.reference ++ codes " " ++ side_word o.side ++ codes " " ++ limit_text tick o.kind
    ++ codes " " ++ decimal o.rest ++ codes " " ++ validity_text o.validity ++ codes " " ++ restriction_word o.restriction ++ codes "\n"

abbrev pub stop_line : NameLists → ℕ → Stop → List ℕ
stop_line names tick s =
    codes "STOP " ++ party_text names s.member s.reference ++ codes " " ++ side_word s.side ++ codes " " ++ price_text s.trigger tick
    ++ codes " " ++ limit_text tick s.becomes ++ codes " " ++ decimal s.quantity ++ codes " " ++ validity_text s.validity ++ codes "\n"

-- in ten-thousandths of a euro: what a member received in a security less what it paid
abbrev pub cash_in : State → ℕ → ℤ
cash_in s member = pos (received member s.trades * s.settings.tick) -ℤ pos (paid member s.trades * s.settings.tick)

abbrev pub net_position_line : List ℕ → ℤ → ℤ → List ℕ
net_position_line name units amount = codes "NET " ++ name ++ codes " " ++ signed_decimal units ++ codes " " ++ money_text amount ++ codes "\n"

-- a member has a line in a security where it bought or sold a unit
abbrev pub net_line : NameLists → State → ℕ → List ℕ
net_line names s member =
    if has_traded member s.trades then net_position_line (name_at names.members member) (net member s.trades) (cash_in s member) else []

-- the indices of the members
abbrev pub member_indices : NameLists → List ℕ
member_indices names = range_with_len 0 (length names.members)

abbrev pub security_line : List ℕ → Phase → List ℕ
security_line name phase = codes "SECURITY " ++ name ++ codes " " ++ phase_word phase ++ codes "\n"

abbrev pub references_line : ℕ → ℕ → ℕ → List ℕ
references_line tick first second = codes "REFERENCES " ++ price_text first tick ++ codes " " ++ price_text second tick ++ codes "\n"

abbrev pub heading_text : List ℕ → State → List ℕ
heading_text name s = security_line name s.phase ++ references_line s.settings.tick (ref1 s) (ref2 s)

-- what was traded, in units and in ticks times units
abbrev pub total_text : ℕ → ℕ → ℕ → List ℕ
total_text tick quantity money = codes "TOTAL " ++ decimal quantity ++ codes " " ++ money_text (pos (money * tick)) ++ codes "\n"

-- the security with this index: phase and reference prices, trades, orders, stops, net positions, total
abbrev pub security_text : NameLists → ℕ → State → List ℕ
security_text names index s =
    heading_text (name_at names.securities index) s
    ++ flat_map (trade_line names s.settings.tick) s.trades
    ++ flat_map (order_line names s.settings.tick) s.orders
    ++ flat_map (stop_line names s.settings.tick) s.stops
    ++ flat_map (net_line names s) (member_indices names)
    ++ total_text s.settings.tick (total_quantity s.trades) (total_money s.trades)

-- a text of each security, from this index on
abbrev pub each_text : (ℕ → State → List ℕ) → ℕ → List State → List ℕ
each_text text_of index [] = []
each_text text_of index (s ∷ ss) = text_of index s ++ each_text text_of (index + 1) ss

abbrev pub securities_text : NameLists → List State → List ℕ
securities_text names states = each_text (security_text names) 0 states

-- a member's cash over all securities
abbrev pub total_cash : List State → ℕ → ℤ
total_cash [] member = pos 0
total_cash (s ∷ ss) member = cash_in s member +ℤ total_cash ss member

abbrev pub cash_line : List ℕ → ℤ → List ℕ
cash_line name amount = codes "MEMBER " ++ name ++ codes " " ++ money_text amount ++ codes "\n"

abbrev pub member_line : NameLists → List State → ℕ → List ℕ
member_line names states member = cash_line (name_at names.members member) (total_cash states member)

-- the date, which all securities of a segment share
abbrev pub today_of : List State → ℕ
today_of [] = 0
today_of (s ∷ ss) = s.settings.today

abbrev pub day_line : ℕ → List ℕ
day_line date = codes "DAY " ++ date_text date ++ codes "\n"

abbrev pub rows_line : ℕ → ℕ → List ℕ
rows_line accepted refused = codes "ROWS " ++ decimal accepted ++ codes " " ++ decimal refused ++ codes "\n"

-- the statement of the securities' states, after so many rows were accepted and refused
abbrev pub statement : NameLists → List State → ℕ → ℕ → List ℕ
statement names states accepted refused =
    day_line (today_of states) ++ securities_text names states ++ flat_map (member_line names states) (member_indices names) ++ rows_line accepted refused
