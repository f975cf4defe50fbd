-- The records and rows of the worked examples.
use Rattle.std.specs.Prelude.{codes, ℕ, List, [], ◌∷◌, ◌++◌, Option}
use Rattle.xm_files.specs.Carry.{listed_in}
use Rattle.xm_files.specs.Names.{NameLists}
use Rattle.xm_files.specs.Rows.{by_column, carry_columns}
use Rattle.xm_files.specs.declared.listed.ListedEntry.{ListedEntry}
use Rattle.xm_rules.specs.declared.commands.Command.{Command}
use Rattle.xm_rules.specs.declared.commands.Command.TheVariants.{Cancel, CancelAll, Enter, StartClosing, StartOpening, Uncross}
use Rattle.xm_rules.specs.declared.commands.Condition.TheVariants.{Plain}
use Rattle.xm_rules.specs.declared.commands.Kind.{Kind}
use Rattle.xm_rules.specs.declared.orders.Order.{Order}
use Rattle.xm_rules.specs.declared.orders.OrderKind.TheVariants.{Limit}
use Rattle.xm_rules.specs.declared.orders.Restriction.TheVariants.{Free, OpeningOnly}
use Rattle.xm_rules.specs.declared.orders.Side.TheVariants.{Sell}
use Rattle.xm_rules.specs.declared.orders.Stop.{Stop}
use Rattle.xm_rules.specs.declared.orders.Validity.TheVariants.{Day, TillCancelled, TillDate}
use Rattle.xm_rules.specs.Entries.{Entries, none_left}
use Rattle.xm_config.specs.declared.config.SecurityConfig.{SecurityConfig}
use Rattle.xm_config.specs.declared.config.SegmentConfig.{SegmentConfig}
use Rattle.xm_config.specs.declared.rows.Row.{Row}

abbrev pub record_names : NameLists
record_names = record { members = codes "AAA" ∷ codes "BBB" ∷ []; securities = codes "XYZ" ∷ codes "UVW" ∷ [] }

-- a security with ticks of this size
abbrev pub with_ticks : ℕ → SecurityConfig
with_ticks tick = record { tick = tick; reference = 1000; widths = record { dynamic = 20; statics = 50; wide = 40 }; limit = 100; carried = none_left }

abbrev pub record_settings : SegmentConfig
record_settings = record { today = 20260105; members = 2; securities = with_ticks 50 ∷ with_ticks 100 ∷ [] }

abbrev pub every_title : List (List ℕ)
every_title =
    codes "command" ∷ codes "member" ∷ codes "reference" ∷ codes "security" ∷ codes "side" ∷ codes "kind" ∷ codes "limit" ∷ codes "trigger" ∷ codes "quantity"
    ∷ codes "validity" ∷ codes "restriction" ∷ codes "condition" ∷ []

-- a record of the first format with this text behind it, which makes one of the second
abbrev pub record_with_text : List (List ℕ) → List ℕ → List (List ℕ)
record_with_text fields text = fields ++ text ∷ []

-- the titles of the second format
abbrev pub second_titles : List (List ℕ)
second_titles = record_with_text every_title (codes "text")

-- the second member enters a sell of thirty units, under reference 7, in this security, of this kind, limit and trigger
abbrev pub order_record : List ℕ → List ℕ → List ℕ → List ℕ → List (List ℕ)
order_record security kind limit trigger =
    codes "enter" ∷ codes "BBB" ∷ codes "7" ∷ security ∷ codes "sell" ∷ kind ∷ limit ∷ trigger ∷ codes "30" ∷ [] ∷ [] ∷ [] ∷ []

-- the second member's change or cancellation in the first security
abbrev pub change_record : List ℕ → List ℕ → List ℕ → List ℕ → List (List ℕ)
change_record word reference limit quantity = word ∷ codes "BBB" ∷ reference ∷ codes "XYZ" ∷ [] ∷ [] ∷ limit ∷ [] ∷ quantity ∷ [] ∷ [] ∷ [] ∷ []

abbrev pub phase_record : List ℕ → List ℕ → List (List ℕ)
phase_record word security = word ∷ [] ∷ [] ∷ security ∷ [] ∷ [] ∷ [] ∷ [] ∷ [] ∷ [] ∷ [] ∷ [] ∷ []

-- a command on a security, in the first record behind the header
abbrev pub row_of : ℕ → Command → Row
row_of security command = record { line = 2; security = security; command = command }

-- the row that `order_record` stands for
abbrev pub entered_row : ℕ → Kind → Row
entered_row security kind = row_of security (Enter 1 7 Sell kind 30 Day Free Plain)

-- the titles of a carry file
abbrev pub carry_titles : List (List ℕ)
carry_titles =
    codes "security" ∷ codes "member" ∷ codes "reference" ∷ codes "side" ∷ codes "kind" ∷ codes "limit" ∷ codes "trigger" ∷ codes "quantity" ∷ codes "validity"
    ∷ codes "restriction" ∷ []

-- the record of a carry file that lists a sell of the second member, under reference 7
abbrev pub carry_record : List ℕ → List ℕ → List ℕ → List ℕ → List ℕ → List ℕ → List ℕ → List (List ℕ)
carry_record security kind limit trigger quantity validity restriction =
    security ∷ codes "BBB" ∷ codes "7" ∷ codes "sell" ∷ kind ∷ limit ∷ trigger ∷ quantity ∷ validity ∷ restriction ∷ []

-- what a record of a carry file says
abbrev pub says : List (List ℕ) → Option ListedEntry
says fields = listed_in record_names record_settings.securities (by_column carry_columns fields)

-- a sell limit order of the second member in the first security, at a tick of 50
abbrev pub left_record : List (List ℕ)
left_record = carry_record (codes "XYZ") (codes "limit") (codes "1.005") (codes "") (codes "30") (codes "gtc") (codes "opening")

abbrev pub left_order : Order
left_order = record { member = 1; reference = 7; side = Sell; kind = Limit 201; rest = 30; validity = TillCancelled; restriction = OpeningOnly }

-- its stop under the same name
abbrev pub left_stop_record : List (List ℕ)
left_stop_record = carry_record (codes "XYZ") (codes "stop-limit") (codes "1.005") (codes "1") (codes "30") (codes "20260105") (codes "free")

abbrev pub left_stop : Stop
left_stop = record { member = 1; reference = 7; side = Sell; trigger = 200; becomes = Limit 201; quantity = 30; validity = TillDate 20260105 }

-- the order is listed for the first security, and nothing for the second
abbrev pub order_listed : List Entries
order_listed = record { orders = left_order ∷ []; stops = [] } ∷ none_left ∷ []

-- one phase row, a row of each of two members, two phase rows, and one more row of a member
abbrev pub round_rows : List Row
round_rows = row_of 0 StartOpening ∷ row_of 0 (Cancel 1 1) ∷ row_of 1 (Cancel 2 1) ∷ row_of 0 Uncross ∷ row_of 0 StartClosing ∷ row_of 0 (CancelAll 1) ∷ []
