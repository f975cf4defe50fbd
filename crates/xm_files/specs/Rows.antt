-- The rows of one record of an order file.
use Rattle.std.specs.Prelude.{◌≡◌, ℕ, Bool, true, false, ◌&&◌, ◌||◌, if◌then◌else◌, nat_le, ◌==◌, List, [], ◌∷◌, ◌++◌, length, map, Option, Some, None, option_map, get_or, slice_get, Result, Ok, Err, codes}
use Rattle.std.specs.List.{list_all, list_any, position_or_len, range_with_len}
use Rattle.std.specs.Option.{option_map_or}
use Rattle.std.specs.Str.{bytes_eq}
use Rattle.xm_rules.specs.declared.commands.Command.{Command}
use Rattle.xm_rules.specs.declared.commands.Command.TheVariants as command
use Rattle.xm_rules.specs.declared.commands.Condition.{Condition}
use Rattle.xm_rules.specs.declared.commands.Condition.TheVariants.{Plain, Ioc, Fok, Boc}
use Rattle.xm_rules.specs.declared.commands.Kind.{Kind}
use Rattle.xm_rules.specs.declared.commands.Kind.TheVariants as kind
use Rattle.xm_rules.specs.declared.orders.Restriction.{Restriction}
use Rattle.xm_rules.specs.declared.orders.Restriction.TheVariants.{Free, OpeningOnly, AuctionsOnly, ClosingOnly}
use Rattle.xm_rules.specs.declared.orders.Side.{Side}
use Rattle.xm_rules.specs.declared.orders.Side.TheVariants.{Buy, Sell}
use Rattle.xm_rules.specs.declared.orders.Validity.{Validity}
use Rattle.xm_rules.specs.declared.orders.Validity.TheVariants.{Day, TillDate, TillCancelled}
use Rattle.xm_ticks.specs.Reading.{number_of, price_of}
use Rattle.xm_ticks.specs.declared.reading.PriceFault.{PriceFault}
use Rattle.xm_ticks.specs.declared.reading.PriceFault.TheVariants.{NotANumber}
use Rattle.xm_files.specs.Steps.{◌>>=◌}
use Rattle.xm_files.specs.Names.{NameLists}
use Rattle.xm_files.specs.declared.columns.Column.{Column}
use Rattle.xm_files.specs.declared.columns.Column.TheVariants as column
use Rattle.xm_config.specs.declared.config.SecurityConfig.{SecurityConfig}
use Rattle.xm_config.specs.declared.config.SegmentConfig.{SegmentConfig}
use Rattle.xm_files.specs.declared.entries.RecordEntry.{RecordEntry}
use Rattle.xm_files.specs.declared.entries.RecordEntry.TheVariants.{One, Each}
use Rattle.xm_files.specs.declared.entries.Word.{Word}
use Rattle.xm_files.specs.declared.entries.Word.TheVariants as word
use Rattle.xm_files.specs.declared.fields.TheConstants.{MAX_TEXT}
use Rattle.xm_files.specs.declared.order_format.OrderFormat.{OrderFormat}
use Rattle.xm_files.specs.declared.order_format.OrderFormat.TheVariants.{First, Second, Carry}
use Rattle.xm_config.specs.declared.rows.Row.{Row}

-- the columns of the first format
abbrev pub first_columns : List Column
first_columns = column.Command ∷ column.Member ∷ column.Reference ∷ column.Security ∷ column.Side ∷ column.Kind ∷ column.Limit ∷ column.Trigger ∷ column.Quantity ∷ column.Validity ∷ column.Restriction ∷ column.Condition ∷ []

-- every column that a format may have
abbrev pub every_column : List Column
every_column = first_columns ++ column.Text ∷ []

-- the columns of the carry file
abbrev pub carry_columns : List Column
carry_columns = column.Security ∷ column.Member ∷ column.Reference ∷ column.Side ∷ column.Kind ∷ column.Limit ∷ column.Trigger ∷ column.Quantity ∷ column.Validity ∷ column.Restriction ∷ []

-- where a column stands among all
abbrev pub column_index : Column → ℕ
column_index column.Command = 0
column_index column.Member = 1
column_index column.Reference = 2
column_index column.Security = 3
column_index column.Side = 4
column_index column.Kind = 5
column_index column.Limit = 6
column_index column.Trigger = 7
column_index column.Quantity = 8
column_index column.Validity = 9
column_index column.Restriction = 10
column_index column.Condition = 11
column_index column.Text = 12

-- what the header says of a column
abbrev pub title_of : Column → List ℕ
title_of column.Command = codes "command"
title_of column.Member = codes "member"
title_of column.Reference = codes "reference"
title_of column.Security = codes "security"
title_of column.Side = codes "side"
title_of column.Kind = codes "kind"
title_of column.Limit = codes "limit"
title_of column.Trigger = codes "trigger"
title_of column.Quantity = codes "quantity"
title_of column.Validity = codes "validity"
title_of column.Restriction = codes "restriction"
title_of column.Condition = codes "condition"
title_of column.Text = codes "text"

-- the columns of a format, in their order
abbrev pub columns_of : OrderFormat → List Column
columns_of First = first_columns
columns_of Second = every_column
columns_of Carry = carry_columns

-- every command word
abbrev pub every_word : List Word
every_word = word.Enter ∷ word.Change ∷ word.Cancel ∷ word.CancelAll ∷ word.Open ∷ word.Intraday ∷ word.Close ∷ word.Uncross ∷ word.End ∷ []

-- the kinds of commands of a format, by their words
abbrev pub kinds_of : OrderFormat → List Word
kinds_of First = every_word
kinds_of Second = every_word
kinds_of Carry = []

-- where a command word stands among all
abbrev pub word_index : Word → ℕ
word_index word.Enter = 0
word_index word.Change = 1
word_index word.Cancel = 2
word_index word.CancelAll = 3
word_index word.Open = 4
word_index word.Intraday = 5
word_index word.Close = 6
word_index word.Uncross = 7
word_index word.End = 8

-- where a column stands among these, and their number where it isn't one of them
abbrev pub column_place : List Column → Column → ℕ
column_place columns column = position_or_len (λ other. column_index other == column_index column) columns

-- the fields of a record with these columns, by column; that of a column that isn't one of them is empty
abbrev pub by_column : List Column → List (List ℕ) → List (List ℕ)
by_column columns fields = map (λ column. get_or fields (column_place columns column) []) every_column

-- the field in a column, of those by column
abbrev pub field : Column → List (List ℕ) → List ℕ
field column fields = get_or fields (column_index column) []

-- a record of a format: its fields, in the order of the format's columns
pub record RecordFields : Type 0 where
  pub format : OrderFormat
  pub in_order : List (List ℕ)

-- the same fields, by column
unfoldable pub texts_of : RecordFields → List (List ℕ)
texts_of fields = by_column (columns_of fields.format) fields.in_order

-- of texts by column, each whose column isn't one of these is empty
abbrev pub HasNoOthers : List Column → List (List ℕ) → Type 0
HasNoOthers columns texts = (column : Column) → column_place columns column ≡ length columns → field column texts ≡ []

-- the header has a field for each column, which is the column's title
abbrev pub is_header : OrderFormat → List (List ℕ) → Bool
is_header format fields =
    (length fields == length (columns_of format))
    && list_all (λ column. bytes_eq (field column (by_column (columns_of format) fields)) (title_of column)) (columns_of format)

-- the fields in these columns are empty
abbrev pub are_empty : List Column → List (List ℕ) → Bool
are_empty blank fields = list_all (λ column. length (field column fields) == 0) blank

-- a number of one to ten digits that 32 bits hold
abbrev pub whole_of : List ℕ → Option ℕ
whole_of text = if nat_le (length text) 10 then number_of text >>= (λ n. if nat_le n 4294967295 then Some n else None) else None

-- the index of a name, which must not be empty; what is no name has the number of names as its index
abbrev pub name_index : List (List ℕ) → List ℕ → Option ℕ
name_index names text = if length text == 0 then None else Some (position_or_len (bytes_eq text) names)

abbrev pub side_named : List ℕ → Option Side
side_named text = if bytes_eq text (codes "buy") then Some Buy else (if bytes_eq text (codes "sell") then Some Sell else None)

-- the raw price of a text that is a number; it is 0, which is refused later, where the number is no price
abbrev pub raw_price : Result ℕ PriceFault → Option ℕ
raw_price (Ok price) = Some price
raw_price (Err NotANumber) = None
raw_price (Err fault) = Some 0

-- the tick of a security, and the finest one where the security is unknown
abbrev pub tick_of : List SecurityConfig → ℕ → ℕ
tick_of securities index = option_map_or (λ security. security.tick) (slice_get securities index) 1

-- a market order has neither limit nor trigger, a limit order a limit and no trigger
abbrev pub market_in : List (List ℕ) → Option Kind
market_in fields = if are_empty (column.Limit ∷ column.Trigger ∷ []) fields then Some kind.Market else None

abbrev pub limit_in : ℕ → List (List ℕ) → Option Kind
limit_in tick fields = if are_empty (column.Trigger ∷ []) fields then option_map kind.Limit (raw_price (price_of (field column.Limit fields) tick)) else None

-- a stop that becomes a market order has a trigger and no limit, one that becomes a limit order both
abbrev pub stop_market_in : ℕ → List (List ℕ) → Option Kind
stop_market_in tick fields = if are_empty (column.Limit ∷ []) fields then option_map kind.StopMarket (raw_price (price_of (field column.Trigger fields) tick)) else None

abbrev pub stop_limit_in : ℕ → List (List ℕ) → Option Kind
stop_limit_in tick fields =
    raw_price (price_of (field column.Limit fields) tick) >>= (λ limit.
    raw_price (price_of (field column.Trigger fields) tick) >>= (λ trigger.
    Some (kind.StopLimit trigger limit)))

abbrev pub kind_in_record : ℕ → List (List ℕ) → Option Kind
kind_in_record tick fields =
    if bytes_eq (field column.Kind fields) (codes "market") then market_in fields
    else (if bytes_eq (field column.Kind fields) (codes "limit") then limit_in tick fields
    else (if bytes_eq (field column.Kind fields) (codes "stop-market") then stop_market_in tick fields
    else (if bytes_eq (field column.Kind fields) (codes "stop-limit") then stop_limit_in tick fields else None)))

-- a date has exactly eight digits
abbrev pub date_of : List ℕ → Option ℕ
date_of text = if length text == 8 then whole_of text else None

-- an empty field is the plain case
abbrev pub validity_of : List ℕ → Option Validity
validity_of text =
    if (length text == 0) || bytes_eq text (codes "day") then Some Day
    else (if bytes_eq text (codes "gtc") then Some TillCancelled else option_map TillDate (date_of text))

abbrev pub restriction_of : List ℕ → Option Restriction
restriction_of text =
    if (length text == 0) || bytes_eq text (codes "free") then Some Free
    else (if bytes_eq text (codes "opening") then Some OpeningOnly
    else (if bytes_eq text (codes "auctions") then Some AuctionsOnly
    else (if bytes_eq text (codes "closing") then Some ClosingOnly else None)))

abbrev pub condition_of : List ℕ → Option Condition
condition_of text =
    if (length text == 0) || bytes_eq text (codes "plain") then Some Plain
    else (if bytes_eq text (codes "ioc") then Some Ioc
    else (if bytes_eq text (codes "fok") then Some Fok
    else (if bytes_eq text (codes "boc") then Some Boc else None)))

-- orders of a format may have this condition
abbrev pub has_condition : OrderFormat → Condition → Bool
has_condition First Plain = true
has_condition First Ioc = true
has_condition First Fok = true
has_condition First Boc = false
has_condition Second Plain = true
has_condition Second Ioc = true
has_condition Second Fok = true
has_condition Second Boc = true
has_condition Carry Plain = true
has_condition Carry Ioc = false
has_condition Carry Fok = false
has_condition Carry Boc = false

-- the condition that a text names, if orders of a format may have it
abbrev pub condition_in : OrderFormat → List ℕ → Option Condition
condition_in format text = condition_of text >>= (λ condition. if has_condition format condition then Some condition else None)

-- the order that a member enters in a security with this tick
abbrev pub order_command : OrderFormat → ℕ → ℕ → List (List ℕ) → Option Command
order_command format tick member fields =
    whole_of (field column.Reference fields) >>= (λ reference.
    side_named (field column.Side fields) >>= (λ side.
    kind_in_record tick fields >>= (λ kind.
    whole_of (field column.Quantity fields) >>= (λ quantity.
    validity_of (field column.Validity fields) >>= (λ validity.
    restriction_of (field column.Restriction fields) >>= (λ restriction.
    condition_in format (field column.Condition fields) >>= (λ condition.
    Some (command.Enter member reference side kind quantity validity restriction condition))))))))

-- a member's row, whose command the member's and the security's index make
abbrev pub member_row : NameLists → List (List ℕ) → (ℕ → ℕ → Option Command) → Option RecordEntry
member_row names fields make =
    name_index names.members (field column.Member fields) >>= (λ member.
    name_index names.securities (field column.Security fields) >>= (λ security.
    make member security >>= (λ made.
    Some (One security made))))

abbrev pub enter_entry : OrderFormat → NameLists → List SecurityConfig → List (List ℕ) → Option RecordEntry
enter_entry format names securities fields = member_row names fields (λ member security. order_command format (tick_of securities security) member fields)

-- the limit that a change gives, where it gives one
abbrev pub given_limit : ℕ → List ℕ → Option (Option ℕ)
given_limit tick text = if length text == 0 then Some None else option_map Some (raw_price (price_of text tick))

abbrev pub change_command : ℕ → ℕ → List (List ℕ) → Option Command
change_command tick member fields =
    whole_of (field column.Reference fields) >>= (λ reference.
    whole_of (field column.Quantity fields) >>= (λ quantity.
    given_limit tick (field column.Limit fields) >>= (λ limit.
    Some (command.Change member reference quantity limit))))

-- a change has a member, a reference, a security, a quantity, and a limit where it gives one
abbrev pub change_blank : List Column
change_blank = column.Side ∷ column.Kind ∷ column.Trigger ∷ column.Validity ∷ column.Restriction ∷ column.Condition ∷ []

abbrev pub change_entry : NameLists → List SecurityConfig → List (List ℕ) → Option RecordEntry
change_entry names securities fields =
    if are_empty change_blank fields then member_row names fields (λ member security. change_command (tick_of securities security) member fields) else None

-- a cancellation has a member, a reference and a security, and nothing else
abbrev pub cancel_blank : List Column
cancel_blank = column.Side ∷ column.Kind ∷ column.Limit ∷ column.Trigger ∷ column.Quantity ∷ column.Validity ∷ column.Restriction ∷ column.Condition ∷ []

abbrev pub cancel_entry : NameLists → List (List ℕ) → Option RecordEntry
cancel_entry names fields =
    if are_empty cancel_blank fields
    then member_row names fields (λ member security. option_map (command.Cancel member) (whole_of (field column.Reference fields))) else None

-- that of all orders of a member has no reference
abbrev pub cancel_all_blank : List Column
cancel_all_blank = column.Reference ∷ cancel_blank

abbrev pub cancel_all_entry : NameLists → List (List ℕ) → Option RecordEntry
cancel_all_entry names fields =
    if are_empty cancel_all_blank fields then member_row names fields (λ member security. Some (command.CancelAll member)) else None

-- a phase row has a security and nothing else; `*` is each security
abbrev pub phase_blank : List Column
phase_blank = column.Member ∷ cancel_all_blank

abbrev pub phase_entry : Command → NameLists → List (List ℕ) → Option RecordEntry
phase_entry phase names fields =
    if are_empty phase_blank fields
    then (if bytes_eq (field column.Security fields) (codes "*") then Some (Each phase)
    else option_map (λ security. One security phase) (name_index names.securities (field column.Security fields)))
    else None

-- the command words
abbrev pub word_of : List ℕ → Option Word
word_of text =
    if bytes_eq text (codes "enter") then Some word.Enter
    else (if bytes_eq text (codes "change") then Some word.Change
    else (if bytes_eq text (codes "cancel") then Some word.Cancel
    else (if bytes_eq text (codes "cancel-all") then Some word.CancelAll
    else (if bytes_eq text (codes "open") then Some word.Open
    else (if bytes_eq text (codes "intraday") then Some word.Intraday
    else (if bytes_eq text (codes "close") then Some word.Close
    else (if bytes_eq text (codes "uncross") then Some word.Uncross
    else (if bytes_eq text (codes "end") then Some word.End else None))))))))

-- what a record of a format with this command word says, if each of its fields is lawful
abbrev pub entry_with : OrderFormat → Option Word → NameLists → List SecurityConfig → List (List ℕ) → Option RecordEntry
entry_with format None names securities fields = None
entry_with format (Some word.Enter) names securities fields = enter_entry format names securities fields
entry_with format (Some word.Change) names securities fields = change_entry names securities fields
entry_with format (Some word.Cancel) names securities fields = cancel_entry names fields
entry_with format (Some word.CancelAll) names securities fields = cancel_all_entry names fields
entry_with format (Some word.Open) names securities fields = phase_entry command.StartOpening names fields
entry_with format (Some word.Intraday) names securities fields = phase_entry command.StartIntraday names fields
entry_with format (Some word.Close) names securities fields = phase_entry command.StartClosing names fields
entry_with format (Some word.Uncross) names securities fields = phase_entry command.Uncross names fields
entry_with format (Some word.End) names securities fields = phase_entry command.EndDay names fields

-- the command word of a record of a format
abbrev pub command_in : OrderFormat → List (List ℕ) → List ℕ
command_in format fields = field column.Command (by_column (columns_of format) fields)

-- a member gives the command with this word, and not a phase
abbrev pub is_members_word : Word → Bool
is_members_word word.Enter = true
is_members_word word.Change = true
is_members_word word.Cancel = true
is_members_word word.CancelAll = true
is_members_word _ = false

-- a text is such a word
abbrev pub names_members_command : List ℕ → Bool
names_members_command text = option_map_or is_members_word (word_of text) false

-- records of a format give the kind of command with this word
abbrev pub has_word : OrderFormat → Word → Bool
has_word format word = list_any (λ other. word_index other == word_index word) (kinds_of format)

-- the kind of command that a text names, if records of a format give it
abbrev pub kind_in : OrderFormat → List ℕ → Option Word
kind_in format text = word_of text >>= (λ kind. if has_word format kind then Some kind else None)

-- the free text of a record, which says nothing, has 64 bytes at most, of whatever kind
abbrev pub has_short_text : List (List ℕ) → Bool
has_short_text fields = nat_le (length (field column.Text fields)) MAX_TEXT

abbrev pub record_entry : OrderFormat → NameLists → List SecurityConfig → List (List ℕ) → Option RecordEntry
record_entry format names securities fields =
    if has_short_text fields then entry_with format (kind_in format (field column.Command fields)) names securities fields else None

-- the rows of an entry that stands in this line, in a segment of so many securities: one, or one per security in index order
abbrev pub rows_of_entry : ℕ → ℕ → RecordEntry → List Row
rows_of_entry line count (One security made) = record { line = line; security = security; command = made } ∷ []
rows_of_entry line count (Each phase) = map (λ security. record { line = line; security = security; command = phase }) (range_with_len 0 count)

-- the rows of a record of a format, which has this number, if it is lawful
abbrev pub rows_of_record : OrderFormat → NameLists → SegmentConfig → ℕ → List (List ℕ) → Option (List Row)
rows_of_record format names config line fields =
    option_map (rows_of_entry line (length names.securities)) (record_entry format names config.securities (by_column (columns_of format) fields))
