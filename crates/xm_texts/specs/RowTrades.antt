-- What a day tells of its trades: of each the row that set it off.
use Rattle.std.specs.Prelude.{codes, ℕ, List, [], ◌++◌, drop, map, take, Option, Some, None, Result, Ok, Err}
use Rattle.std.specs.List.{flat_map}
use Rattle.std.specs.Fmt.{decimal}
use Rattle.xm_config.specs.Day.{Day, opening_day, told_behind, told_of_rows}
use Rattle.xm_texts.specs.RowAnswers.{record_line}
use Rattle.xm_texts.specs.Statement.{name_at, trade_word}
use Rattle.xm_files.specs.Names.{NameLists}
use Rattle.xm_rules.specs.State.{State}
use Rattle.xm_rules.specs.declared.orders.Trade.{Trade}
use Rattle.xm_rules.specs.declared.replies.Refusal.{Refusal}
use Rattle.xm_rules.specs.declared.replies.Reply.{Reply}
use Rattle.xm_config.specs.declared.config.SegmentConfig.{SegmentConfig}
use Rattle.xm_config.specs.declared.rows.Row.{Row}
use Rattle.xm_ticks.specs.Writing.{price_text}

-- so many trades from one on
abbrev pub trades_from : ℕ → ℕ → List Trade → List Trade
trades_from first number trades = take number (drop first trades)

-- the trades of a row that was answered so: those that its reply counts, of all that its security has behind it
abbrev pub trades_by : Result Reply Refusal → List Trade → List Trade
trades_by (Ok reply) trades = trades_from reply.first_trade reply.trades trades
trades_by (Err refusal) trades = []

-- a member and the reference that it gave its order
abbrev pub party_fields : NameLists → ℕ → ℕ → List ℕ
party_fields names member reference = name_at names.members member ++ codes "," ++ decimal reference

-- the fields of a trade, from its security to the seller's order
abbrev pub trade_fields : NameLists → Row → ℕ → Trade → List ℕ
trade_fields names row tick t =
    name_at names.securities row.security ++ codes "," ++ decimal t.sweep ++ codes "," ++ trade_word t.kind ++ codes "," ++ price_text t.price tick ++ codes "," ++ decimal t.quantity
    ++ codes "," ++ party_fields names t.buyer t.buy_ref ++ codes "," ++ party_fields names t.seller t.sell_ref

-- those of each trade of a row, by the state of its security behind it, where there is one
abbrev pub row_trades : NameLists → Row → Result Reply Refusal → Option State → List (List ℕ)
row_trades names row answer None = []
row_trades names row answer (Some s) = map (trade_fields names row s.settings.tick) (trades_by answer s.trades)

-- a line for each trade of a row, whose record has this free text
abbrev pub trade_lines : NameLists → Row → List ℕ → Result Reply Refusal → Option State → List ℕ
trade_lines names row text answer state = flat_map (record_line row text) (row_trades names row answer state)

-- the lines of a row that a day takes, where records have these texts by their numbers
abbrev pub told_trades : NameLists → (ℕ → List ℕ) → Day → Row → List ℕ
told_trades names texts d row = told_behind (trade_lines names) texts d row

-- those of rows that it takes one after another
abbrev pub trades_of : NameLists → (ℕ → List ℕ) → Day → List Row → List ℕ
trades_of names texts d rows = told_of_rows (told_trades names texts) d rows

abbrev pub trades_header : List ℕ
trades_header = codes "record,security,sweep,kind,price,quantity,buyer,buy_reference,seller,sell_reference,text\n"

-- the trades of the rows of a day, where records have these texts by their numbers
abbrev pub trades_text : NameLists → SegmentConfig → (ℕ → List ℕ) → List Row → List ℕ
trades_text names config texts rows = trades_header ++ trades_of names texts (opening_day config) rows
