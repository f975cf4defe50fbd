-- What a day tells of the lives of its orders: a line for each event, in the order in which they happen.
use Rattle.std.specs.Prelude.{codes, ℕ, List, [], ◌++◌, slice_get, Option, Some, None, Result, Ok, Err}
use Rattle.std.specs.List.{flat_map}
use Rattle.std.specs.Fmt.{decimal}
use Rattle.xm_config.specs.Day.{Day, opening_day, row_answer, told_of_rows}
use Rattle.xm_config.specs.declared.config.SegmentConfig.{SegmentConfig}
use Rattle.xm_config.specs.declared.rows.Row.{Row}
use Rattle.xm_events.specs.Story.{story}
use Rattle.xm_events.specs.declared.events.Deletion.{Deletion}
use Rattle.xm_events.specs.declared.events.Deletion.TheVariants.{ImmediateOrCancel, FillOrKill, EndOfDay}
use Rattle.xm_events.specs.declared.events.Entry.{Entry}
use Rattle.xm_events.specs.declared.events.Entry.TheVariants as entry
use Rattle.xm_events.specs.declared.events.Event.{Event}
use Rattle.xm_events.specs.declared.events.Event.TheVariants.{Accepted, Changed, Filled, Triggered, Cancelled, Deleted, Interrupted, Began}
use Rattle.xm_events.specs.declared.events.PriceRange.{PriceRange}
use Rattle.xm_events.specs.declared.events.PriceRange.TheVariants as range
use Rattle.xm_files.specs.Names.{NameLists}
use Rattle.xm_rules.specs.Orders.{limit_of}
use Rattle.xm_rules.specs.State.{State}
use Rattle.xm_rules.specs.declared.commands.Command.{Command}
use Rattle.xm_rules.specs.declared.commands.Command.TheVariants.{Enter, Change, Cancel, CancelAll}
use Rattle.xm_rules.specs.declared.replies.Refusal.{Refusal}
use Rattle.xm_rules.specs.declared.replies.Reply.{Reply}
use Rattle.xm_texts.specs.Carry.{kind_word}
use Rattle.xm_texts.specs.RowAnswers.{number_field, refusal_word}
use Rattle.xm_texts.specs.RowTrades.{party_fields}
use Rattle.xm_texts.specs.Statement.{name_at, phase_word, side_word, trade_word}
use Rattle.xm_texts.specs.declared.events.Owner.{Owner}
use Rattle.xm_ticks.specs.Writing.{price_text}

abbrev pub event_word : Event → List ℕ
event_word (Accepted entry) = codes "accepted"
event_word (Changed o) = codes "changed"
event_word (Filled f) = codes "filled"
event_word (Triggered stop) = codes "triggered"
event_word (Cancelled entry) = codes "cancelled"
event_word (Deleted entry reason) = codes "deleted"
event_word (Interrupted price range) = codes "interrupted"
event_word (Began phase) = codes "phase"

-- whose order or stop it is, by what name, and of which side
abbrev pub owner_of_entry : Entry → Owner
owner_of_entry (entry.Order o) = record { member = o.member; reference = o.reference; side = o.side }
owner_of_entry (entry.Stop stop) = record { member = stop.member; reference = stop.reference; side = stop.side }

abbrev pub owner_of : Event → Option Owner
owner_of (Accepted entry) = Some (owner_of_entry entry)
owner_of (Changed o) = Some (owner_of_entry (entry.Order o))
owner_of (Filled f) = Some (record { member = f.member; reference = f.reference; side = f.side })
owner_of (Triggered stop) = Some (owner_of_entry (entry.Stop stop))
owner_of (Cancelled entry) = Some (owner_of_entry entry)
owner_of (Deleted entry reason) = Some (owner_of_entry entry)
owner_of (Interrupted price range) = None
owner_of (Began phase) = None

-- the limit of an order, if it has one, and the trigger of a stop
abbrev pub price_of_entry : Entry → Option ℕ
price_of_entry (entry.Order o) = limit_of o.kind
price_of_entry (entry.Stop stop) = Some stop.trigger

-- the price of a trade, or of an interruption, and else that of the order or the stop; a triggered stop is an order
abbrev pub price_of_event : Event → Option ℕ
price_of_event (Accepted entry) = price_of_entry entry
price_of_event (Changed o) = limit_of o.kind
price_of_event (Filled f) = Some f.price
price_of_event (Triggered stop) = limit_of stop.becomes
price_of_event (Cancelled entry) = price_of_entry entry
price_of_event (Deleted entry reason) = price_of_entry entry
price_of_event (Interrupted price range) = Some price
price_of_event (Began phase) = None

abbrev pub quantity_of_entry : Entry → ℕ
quantity_of_entry (entry.Order o) = o.rest
quantity_of_entry (entry.Stop stop) = stop.quantity

-- the units that come in, that are traded, or that are deleted
abbrev pub quantity_of : Event → Option ℕ
quantity_of (Accepted entry) = Some (quantity_of_entry entry)
quantity_of (Changed o) = Some o.rest
quantity_of (Filled f) = Some f.quantity
quantity_of (Triggered stop) = Some stop.quantity
quantity_of (Cancelled entry) = Some (quantity_of_entry entry)
quantity_of (Deleted entry reason) = Some (quantity_of_entry entry)
quantity_of (Interrupted price range) = None
quantity_of (Began phase) = None

-- the units that are left behind it
abbrev pub left_behind : Event → Option ℕ
left_behind (Accepted entry) = Some (quantity_of_entry entry)
left_behind (Changed o) = Some o.rest
left_behind (Filled f) = Some f.rest
left_behind (Triggered stop) = Some stop.quantity
left_behind (Cancelled entry) = Some 0
left_behind (Deleted entry reason) = Some 0
left_behind (Interrupted price range) = None
left_behind (Began phase) = None

abbrev pub entry_word : Entry → List ℕ
entry_word (entry.Order o) = kind_word None o.kind
entry_word (entry.Stop stop) = kind_word (Some stop.trigger) stop.becomes

abbrev pub deletion_word : Deletion → List ℕ
deletion_word ImmediateOrCancel = codes "ioc"
deletion_word FillOrKill = codes "fok"
deletion_word EndOfDay = codes "end"

abbrev pub range_word : PriceRange → List ℕ
range_word range.Dynamic = codes "dynamic"
range_word range.Static = codes "static"
range_word range.Wide = codes "wide"

-- the kind of an order or a stop, where it was traded, why it was deleted, which range was left, which phase began
abbrev pub cause_word : Event → List ℕ
cause_word (Accepted entry) = entry_word entry
cause_word (Changed o) = kind_word None o.kind
cause_word (Filled f) = trade_word f.kind
cause_word (Triggered stop) = kind_word None stop.becomes
cause_word (Cancelled entry) = entry_word entry
cause_word (Deleted entry reason) = deletion_word reason
cause_word (Interrupted price range) = range_word range
cause_word (Began phase) = phase_word phase

abbrev pub price_field : ℕ → Option ℕ → List ℕ
price_field tick None = []
price_field tick (Some price) = price_text price tick

abbrev pub owner_fields : NameLists → Option Owner → List ℕ
owner_fields names None = codes ",,"
owner_fields names (Some owner) = party_fields names owner.member owner.reference ++ codes "," ++ side_word owner.side

-- which record and security, what, and of which order or stop
abbrev pub subject_fields : NameLists → ℕ → ℕ → Event → List ℕ
subject_fields names line security event =
    decimal line ++ codes "," ++ name_at names.securities security ++ codes "," ++ event_word event ++ codes "," ++ owner_fields names (owner_of event)

-- at which price, of how many units, how many of them are left, and why
abbrev pub outcome_fields : ℕ → Event → List ℕ
outcome_fields tick event =
    price_field tick (price_of_event event) ++ codes "," ++ number_field (quantity_of event) ++ codes "," ++ number_field (left_behind event) ++ codes "," ++ cause_word event

-- the line of an event of this security, by the record that led to it
abbrev pub event_line : NameLists → ℕ → ℕ → ℕ → Event → List ℕ
event_line names line security tick event = subject_fields names line security event ++ codes "," ++ outcome_fields tick event ++ codes "\n"

abbrev pub events_header : List ℕ
events_header = codes "record,security,event,member,reference,side,price,quantity,rest,cause\n"

-- ---- the rows of a day

-- who gave a command, by what name, and for which side, as far as it says
abbrev pub giver_fields : NameLists → Command → List ℕ
giver_fields names (Enter member reference side kind quantity validity restriction condition) = party_fields names member reference ++ codes "," ++ side_word side
giver_fields names (Change member reference quantity limit) = party_fields names member reference ++ codes ","
giver_fields names (Cancel member reference) = party_fields names member reference ++ codes ","
giver_fields names (CancelAll member) = name_at names.members member ++ codes ",,"
giver_fields names command = codes ",,"

-- the line of a row that was refused; a security that is unknown has no name
abbrev pub refused_line : NameLists → Row → Refusal → List ℕ
refused_line names row refusal =
    decimal row.line ++ codes "," ++ name_at names.securities row.security ++ codes ",refused," ++ giver_fields names row.command ++ codes ",,,," ++ refusal_word refusal ++ codes "\n"

-- the lines of a row, by the answer to it and by the state of its security before it, where there is one: what happened by its command
abbrev pub row_events : NameLists → Row → Result Reply Refusal → Option State → List ℕ
row_events names row (Err refusal) state = refused_line names row refusal
row_events names row (Ok reply) None = []
row_events names row (Ok reply) (Some s) = flat_map (event_line names row.line row.security s.settings.tick) (story s row.command)

-- those of a row that a day takes
abbrev pub told_events : NameLists → Day → Row → List ℕ
told_events names d row = row_events names row (row_answer d.states row) (slice_get d.states row.security)

-- those of rows that it takes one after another
abbrev pub events_of : NameLists → Day → List Row → List ℕ
events_of names d rows = told_of_rows (told_events names) d rows

-- the events of the rows of a day
abbrev pub events_text : NameLists → SegmentConfig → List Row → List ℕ
events_text names config rows = events_header ++ events_of names (opening_day config) rows
