-- The worked example of a day: three buys below one another, two stops, and a sell that reaches both.
use Rattle.std.specs.Prelude.{codes, ℕ, ◌+◌, ◌==◌, if◌then◌else◌, List, [], ◌∷◌, ◌++◌, replicate}
use Rattle.xm_rules.specs.Entries.{none_left}
use Rattle.xm_rules.specs.Examples.{enter, order, stop, trade}
use Rattle.xm_rules.specs.State.{State}
use Rattle.xm_rules.specs.declared.commands.Command.{Command}
use Rattle.xm_rules.specs.declared.commands.Command.TheVariants.{Cancel, EndDay, Enter, StartClosing, StartOpening, Uncross}
use Rattle.xm_rules.specs.declared.commands.Condition.TheVariants.{Plain}
use Rattle.xm_rules.specs.declared.commands.Kind.TheVariants as kind
use Rattle.xm_rules.specs.declared.orders.OrderKind.TheVariants.{Limit, Market}
use Rattle.xm_rules.specs.declared.orders.Restriction.{Restriction}
use Rattle.xm_rules.specs.declared.orders.Restriction.TheVariants.{Free, OpeningOnly, AuctionsOnly, ClosingOnly}
use Rattle.xm_rules.specs.declared.orders.Side.TheVariants.{Buy, Sell}
use Rattle.xm_rules.specs.declared.orders.TradeKind.{TradeKind}
use Rattle.xm_rules.specs.declared.orders.TradeKind.TheVariants as made
use Rattle.xm_rules.specs.declared.orders.Validity.{Validity}
use Rattle.xm_rules.specs.declared.orders.Validity.TheVariants.{Day, TillDate, TillCancelled}
use Rattle.xm_rules.specs.declared.phases.Auction.TheVariants as auction
use Rattle.xm_rules.specs.declared.phases.CallStage.TheVariants.{Ordinary, Interrupted, Extended}
use Rattle.xm_rules.specs.declared.phases.Phase.{Phase}
use Rattle.xm_rules.specs.declared.phases.Phase.TheVariants.{PreTrading, Call, Continuous, PostTrading, Ended}
use Rattle.xm_rules.specs.declared.replies.Refusal.{Refusal}
use Rattle.xm_rules.specs.declared.replies.Refusal.TheVariants as refused
use Rattle.xm_rules.specs.declared.replies.Reply.{Reply}
use Rattle.xm_config.specs.Opening.{settings_of}
use Rattle.xm_texts.specs.MarketDepth.{depth_header}
use Rattle.xm_texts.specs.RowAnswers.{answers_header}
use Rattle.xm_texts.specs.RowTrades.{trades_header}
use Rattle.xm_files.specs.Examples.{carry_record}
use Rattle.xm_files.specs.Names.{NameLists}
use Rattle.xm_config.specs.declared.config.SecurityConfig.{SecurityConfig}
use Rattle.xm_config.specs.declared.config.SegmentConfig.{SegmentConfig}
use Rattle.xm_config.specs.declared.rows.Row.{Row}

abbrev pub example_names : NameLists
example_names = record { members = codes "AAA" ∷ codes "BBB" ∷ []; securities = codes "XYZ" ∷ [] }

-- ticks of a cent
abbrev pub example_security : SecurityConfig
example_security = record { tick = 100; reference = 1000; widths = record { dynamic = 20; statics = 50; wide = 40 }; limit = 100; carried = none_left }

abbrev pub example_config : SegmentConfig
example_config = record { today = 20260105; members = 2; securities = example_security ∷ [] }

-- the second stop stays till it is cancelled; the cancellation names no order
abbrev pub cascade_commands : List Command
cascade_commands =
    StartOpening ∷ Uncross ∷ enter 0 1 Buy (kind.Limit 1000) 10 ∷ enter 0 2 Buy (kind.Limit 990) 20 ∷ enter 0 3 Buy (kind.Limit 985) 30
    ∷ enter 1 1 Sell (kind.StopMarket 990) 25 ∷ Enter 1 2 Sell (kind.StopLimit 985 985) 10 TillCancelled Free Plain ∷ enter 1 3 Sell (kind.Limit 990) 30
    ∷ Cancel 0 9 ∷ StartClosing ∷ Uncross ∷ EndDay ∷ []

-- commands on the first security, one in each line from this one on
abbrev pub rows_in_lines : ℕ → List Command → List Row
rows_in_lines line [] = []
rows_in_lines line (command ∷ commands) = record { line = line; security = 0; command = command } ∷ rows_in_lines (line + 1) commands

abbrev pub cascade_rows : List Row
cascade_rows = rows_in_lines 2 cascade_commands

-- the state after the day
abbrev pub cascade_state : State
cascade_state = record {
  settings = settings_of example_config example_security;
  accepted = 11;
  phase = Ended;
  orders = record (order 1 2 Sell (Limit 985) 5) { validity = TillCancelled } ∷ [];
  stops = [];
  trades =
      trade made.Continuous 4 10 1000 (0, 1) (1, 3) ∷ trade made.Continuous 4 20 990 (0, 2) (1, 3) ∷ trade made.Continuous 5 25 985 (0, 3) (1, 1)
      ∷ trade made.Continuous 6 5 985 (0, 3) (1, 2) ∷ [];
  sweeps = 6;
}

abbrev pub cascade_text : List ℕ
cascade_text =
    codes "DAY 20260105\n" ++ codes "SECURITY XYZ ended\n" ++ codes "REFERENCES 9.8500 10.0000\n"
    ++ codes "TRADE 4 continuous 10.0000 10 AAA 1 BBB 3\n" ++ codes "TRADE 4 continuous 9.9000 20 AAA 2 BBB 3\n"
    ++ codes "TRADE 5 continuous 9.8500 25 AAA 3 BBB 1\n" ++ codes "TRADE 6 continuous 9.8500 5 AAA 3 BBB 2\n"
    ++ codes "ORDER BBB 2 sell 9.8500 5 gtc free\n" ++ codes "NET AAA 60 -593.5000\n" ++ codes "NET BBB -60 593.5000\n"
    ++ codes "TOTAL 60 593.5000\n" ++ codes "MEMBER AAA -593.5000\n" ++ codes "MEMBER BBB 593.5000\n" ++ codes "ROWS 11 1\n"

-- the answers to the rows of that day
abbrev pub cascade_answers : List ℕ
cascade_answers =
    answers_header
    ++ codes "2,XYZ,accepted,1,opening-call,0,0,0,0.0000,,,,,,10.0000,10.0000,,,\n"
    ++ codes "3,XYZ,accepted,2,continuous,0,0,0,0.0000,,,,,,10.0000,10.0000,,,\n"
    ++ codes "4,XYZ,accepted,3,continuous,0,0,0,0.0000,10,10.0000,10,,,10.0000,10.0000,,,\n"
    ++ codes "5,XYZ,accepted,4,continuous,0,0,0,0.0000,20,10.0000,10,,,10.0000,10.0000,,,\n"
    ++ codes "6,XYZ,accepted,5,continuous,0,0,0,0.0000,30,10.0000,10,,,10.0000,10.0000,,,\n"
    ++ codes "7,XYZ,accepted,6,continuous,0,0,0,0.0000,25,10.0000,10,,,10.0000,10.0000,,,\n"
    ++ codes "8,XYZ,accepted,7,continuous,0,0,0,0.0000,10,10.0000,10,,,10.0000,10.0000,,,\n"
    ++ codes "9,XYZ,accepted,8,continuous,0,4,60,593.5000,0,,,9.8500,5,9.8500,10.0000,,,\n"
    ++ codes "10,XYZ,unknown-order,,,,,,,,,,9.8500,5,9.8500,10.0000,,,\n"
    ++ codes "11,XYZ,accepted,9,closing-call,4,0,0,0.0000,,,,9.8500,5,9.8500,10.0000,,,\n"
    ++ codes "12,XYZ,accepted,10,post-trading,4,0,0,0.0000,,,,,,9.8500,10.0000,,,\n"
    ++ codes "13,XYZ,accepted,11,ended,4,0,0,0.0000,,,,,,9.8500,10.0000,,,\n"

-- its trades, with the row that set them off
abbrev pub cascade_trades : List ℕ
cascade_trades =
    trades_header
    ++ codes "9,XYZ,4,continuous,10.0000,10,AAA,1,BBB,3,\n"
    ++ codes "9,XYZ,4,continuous,9.9000,20,AAA,2,BBB,3,\n"
    ++ codes "9,XYZ,5,continuous,9.8500,25,AAA,3,BBB,1,\n"
    ++ codes "9,XYZ,6,continuous,9.8500,5,AAA,3,BBB,2,\n"

-- a reply that counts no trades
abbrev pub no_trades : Reply
no_trades = record { version = 1; phase = Continuous; first_trade = 0; trades = 0; quantity = 0; money = 0 }

-- the levels behind the rows of that day
abbrev pub cascade_depth : List ℕ
cascade_depth =
    depth_header
    ++ codes "4,XYZ,buy,0,,0\n"
    ++ codes "4,XYZ,buy,1,10.0000,10\n"
    ++ codes "4,XYZ,sell,0,,0\n"
    ++ codes "5,XYZ,buy,0,,0\n"
    ++ codes "5,XYZ,buy,1,10.0000,10\n"
    ++ codes "5,XYZ,buy,2,9.9000,20\n"
    ++ codes "5,XYZ,sell,0,,0\n"
    ++ codes "6,XYZ,buy,0,,0\n"
    ++ codes "6,XYZ,buy,1,10.0000,10\n"
    ++ codes "6,XYZ,buy,2,9.9000,20\n"
    ++ codes "6,XYZ,buy,3,9.8500,30\n"
    ++ codes "6,XYZ,sell,0,,0\n"
    ++ codes "9,XYZ,buy,0,,0\n"
    ++ codes "9,XYZ,sell,0,,0\n"
    ++ codes "9,XYZ,sell,1,9.8500,5\n"
    ++ codes "12,XYZ,buy,0,,0\n"
    ++ codes "12,XYZ,sell,0,,0\n"

-- two sells at one limit, of which one is for auctions alone, and a market buy for the closing auction alone
abbrev pub restricted_state : Phase → State
restricted_state phase = record cascade_state {
  phase = phase;
  orders =
      order 1 2 Sell (Limit 985) 5 ∷ record (order 1 3 Sell (Limit 985) 7) { restriction = AuctionsOnly }
      ∷ record (order 0 9 Buy Market 3) { restriction = ClosingOnly } ∷ [];
}

-- six buys with limits, two of them at the best one, and a market buy, in a call
abbrev pub crowded_state : State
crowded_state = record cascade_state {
  phase = Call auction.Opening Ordinary;
  orders =
      order 0 1 Buy (Limit 981) 1 ∷ order 0 2 Buy (Limit 986) 2 ∷ order 0 3 Buy (Limit 983) 3 ∷ order 0 4 Buy (Limit 984) 4 ∷ order 0 5 Buy (Limit 985) 5
      ∷ order 1 6 Buy (Limit 986) 6 ∷ order 1 7 Buy Market 7 ∷ order 0 8 Buy (Limit 982) 8 ∷ [];
}

-- all refusals by rules, and their words
abbrev pub every_refusal : List Refusal
every_refusal =
    refused.UnknownSecurity ∷ refused.UnknownMember ∷ refused.DayEnded ∷ refused.BadQuantity ∷ refused.BadPrice ∷ refused.BadValidity ∷ refused.BadCombination
    ∷ refused.WrongPhase ∷ refused.DuplicateReference ∷ refused.UnknownOrder ∷ refused.NotChangeable ∷ refused.TriggerReached ∷ refused.JournalFull
    ∷ refused.WouldExecute ∷ []

abbrev pub every_refusal_word : List (List ℕ)
every_refusal_word =
    codes "unknown-security" ∷ codes "unknown-member" ∷ codes "day-ended" ∷ codes "bad-quantity" ∷ codes "bad-price" ∷ codes "bad-validity"
    ∷ codes "bad-combination" ∷ codes "wrong-phase" ∷ codes "duplicate-reference" ∷ codes "unknown-order" ∷ codes "not-changeable"
    ∷ codes "trigger-reached" ∷ codes "journal-full" ∷ codes "would-execute" ∷ []

-- all phases, and their words
abbrev pub every_phase : List Phase
every_phase =
    PreTrading ∷
    Call auction.Opening Ordinary ∷ Call auction.Opening Interrupted ∷ Call auction.Opening Extended ∷
    Call auction.Intraday Ordinary ∷ Call auction.Intraday Interrupted ∷ Call auction.Intraday Extended ∷
    Call auction.Closing Ordinary ∷ Call auction.Closing Interrupted ∷ Call auction.Closing Extended ∷
    Call auction.Interruption Ordinary ∷ Call auction.Interruption Interrupted ∷ Call auction.Interruption Extended ∷
    Continuous ∷ PostTrading ∷ Ended ∷ []

abbrev pub every_phase_word : List (List ℕ)
every_phase_word =
    codes "pre-trading" ∷
    codes "opening-call" ∷ codes "opening-interrupted" ∷ codes "opening-extended" ∷
    codes "intraday-call" ∷ codes "intraday-interrupted" ∷ codes "intraday-extended" ∷
    codes "closing-call" ∷ codes "closing-interrupted" ∷ codes "closing-extended" ∷
    codes "interruption-call" ∷ codes "interruption-interrupted" ∷ codes "interruption-extended" ∷
    codes "continuous" ∷ codes "post-trading" ∷ codes "ended" ∷ []

-- all kinds of trades, and their words
abbrev pub every_trade_kind : List TradeKind
every_trade_kind =
    made.Continuous ∷
    made.Auction auction.Opening Ordinary ∷ made.Auction auction.Opening Interrupted ∷ made.Auction auction.Opening Extended ∷
    made.Auction auction.Intraday Ordinary ∷ made.Auction auction.Intraday Interrupted ∷ made.Auction auction.Intraday Extended ∷
    made.Auction auction.Closing Ordinary ∷ made.Auction auction.Closing Interrupted ∷ made.Auction auction.Closing Extended ∷
    made.Auction auction.Interruption Ordinary ∷ made.Auction auction.Interruption Interrupted ∷ made.Auction auction.Interruption Extended ∷ []

abbrev pub every_trade_word : List (List ℕ)
every_trade_word =
    codes "continuous" ∷
    codes "opening-call" ∷ codes "opening-interrupted" ∷ codes "opening-extended" ∷
    codes "intraday-call" ∷ codes "intraday-interrupted" ∷ codes "intraday-extended" ∷
    codes "closing-call" ∷ codes "closing-interrupted" ∷ codes "closing-extended" ∷
    codes "interruption-call" ∷ codes "interruption-interrupted" ∷ codes "interruption-extended" ∷ []

-- all restrictions, and their words
abbrev pub every_restriction : List Restriction
every_restriction = Free ∷ OpeningOnly ∷ AuctionsOnly ∷ ClosingOnly ∷ []

abbrev pub every_restriction_word : List (List ℕ)
every_restriction_word = codes "free" ∷ codes "opening" ∷ codes "auctions" ∷ codes "closing" ∷ []

-- validities with dates of one, seven, eight and nine digits, and their texts
abbrev pub every_validity : List Validity
every_validity = Day ∷ TillDate 0 ∷ TillDate 9991231 ∷ TillDate 20260131 ∷ TillDate 123456789 ∷ TillCancelled ∷ []

abbrev pub every_validity_text : List (List ℕ)
every_validity_text = codes "day" ∷ codes "00000000" ∷ codes "09991231" ∷ codes "20260131" ∷ codes "123456789" ∷ codes "gtc" ∷ []

-- a second security, of ticks of a ten-thousandth, in which the first member sold ten units for ten ticks each
abbrev pub penny_state : State
penny_state = record cascade_state {
  settings = record cascade_state.settings { tick = 1 };
  trades = trade made.Continuous 1 10 10 (1, 1) (0, 1) ∷ [];
}

-- the begin of the opening call of a security
abbrev pub open_row : ℕ → Row
open_row security = record { line = 2; security = security; command = StartOpening }

-- a segment of so many securities and so many members
abbrev pub sized_config : ℕ → ℕ → SegmentConfig
sized_config securities members = record { today = 20260105; members = members; securities = replicate securities example_security }

-- a security whose dynamic width is its wide one
abbrev pub broad_security : SecurityConfig
broad_security = record example_security { widths = record { dynamic = 40; statics = 50; wide = 40 } }

-- three orders and three stops, of which some end today and one is for auctions alone
abbrev pub lasting_state : State
lasting_state = record cascade_state {
  orders =
      record (order 1 2 Sell (Limit 985) 5) { validity = TillCancelled; restriction = AuctionsOnly }
      ∷ record (order 0 3 Buy (Limit 980) 7) { validity = TillDate 20260105 } ∷ record (order 0 4 Buy Market 9) { validity = TillDate 20260106 } ∷ [];
  stops =
      record (stop 0 5 Sell 900 (Limit 890) 3) { validity = TillDate 20260105 } ∷ record (stop 0 6 Buy 1020 Market 4) { validity = TillCancelled }
      ∷ stop 1 7 Sell 900 Market 5 ∷ [];
}

abbrev pub lasting_text : List ℕ
lasting_text =
    codes "XYZ,BBB,2,sell,limit,9.8500,,5,gtc,auctions\n" ++ codes "XYZ,AAA,4,buy,market,,,9,20260106,free\n"
    ++ codes "XYZ,AAA,6,buy,stop-market,,10.2000,4,gtc,free\n"

-- the record of a carry file that lists a sell stop of so many units
abbrev pub stop_record : List ℕ → List (List ℕ)
stop_record quantity = carry_record (codes "XYZ") (codes "stop-market") (codes "") (codes "1") quantity (codes "gtc") (codes "free")

-- the texts of records, by their numbers
abbrev pub second_told : ℕ → List ℕ
second_told line = if line == 2 then codes "second" else codes "another"
