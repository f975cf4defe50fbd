-- What a day tells of its rows: of each the answer, and the market after it.
use Rattle.std.specs.Prelude.{◌≡◌, All, codes, ℕ, pos, ◌*◌, ◌==◌, Bool, true, false, if◌then◌else◌, List, [], ◌∷◌, ◌++◌, Option, Some, None, Result, Ok, Err}
use Rattle.std.specs.List.{flat_map, list_any}
use Rattle.std.specs.Fmt.{decimal}
use Rattle.xm_config.specs.Day.{Day, opening_day, told_behind, told_of_rows}
use Rattle.xm_texts.specs.Statement.{name_at, phase_word}
use Rattle.xm_desk.specs.Shown.{level_in, units_left}
use Rattle.xm_files.specs.Names.{NameLists}
use Rattle.xm_files.specs.Plain.{is_mark}
use Rattle.xm_rules.specs.Quote.{indicative}
use Rattle.xm_rules.specs.State.{State, ref1, ref2}
use Rattle.xm_rules.specs.declared.commands.Command.{Command}
use Rattle.xm_rules.specs.declared.commands.Command.TheVariants.{Enter, Change, Cancel}
use Rattle.xm_rules.specs.declared.orders.Side.TheVariants.{Buy, Sell}
use Rattle.xm_rules.specs.declared.replies.Refusal.{Refusal}
use Rattle.xm_rules.specs.declared.replies.Refusal.TheVariants as refused
use Rattle.xm_rules.specs.declared.replies.Reply.{Reply}
use Rattle.xm_config.specs.declared.config.SegmentConfig.{SegmentConfig}
use Rattle.xm_config.specs.declared.rows.Row.{Row}
use Rattle.xm_ticks.specs.Writing.{money_text, price_text}

abbrev pub refusal_word : Refusal → List ℕ
refusal_word refused.UnknownSecurity = codes "unknown-security"
refusal_word refused.UnknownMember = codes "unknown-member"
refusal_word refused.DayEnded = codes "day-ended"
refusal_word refused.BadQuantity = codes "bad-quantity"
refusal_word refused.BadPrice = codes "bad-price"
refusal_word refused.BadValidity = codes "bad-validity"
refusal_word refused.BadCombination = codes "bad-combination"
refusal_word refused.WrongPhase = codes "wrong-phase"
refusal_word refused.DuplicateReference = codes "duplicate-reference"
refusal_word refused.UnknownOrder = codes "unknown-order"
refusal_word refused.NotChangeable = codes "not-changeable"
refusal_word refused.TriggerReached = codes "trigger-reached"
refusal_word refused.JournalFull = codes "journal-full"
refusal_word (refused.OutOfMemory _) = codes "out-of-memory"
refusal_word refused.WouldExecute = codes "would-execute"

abbrev pub answer_word : Result Reply Refusal → List ℕ
answer_word (Ok reply) = codes "accepted"
answer_word (Err refusal) = refusal_word refusal

-- the fields of a reply, from its version to its money
abbrev pub reply_fields : ℕ → Reply → List ℕ
reply_fields tick r =
    decimal r.version ++ codes "," ++ phase_word r.phase ++ codes "," ++ decimal r.first_trade ++ codes "," ++ decimal r.trades ++ codes "," ++ decimal r.quantity
    ++ codes "," ++ money_text (pos (r.money * tick))

-- what is left of the order or the stop that a command names
abbrev pub rest_named : State → Command → Option ℕ
rest_named s (Enter member reference side kind quantity validity restriction condition) = Some (units_left s member reference)
rest_named s (Change member reference quantity limit) = Some (units_left s member reference)
rest_named s (Cancel member reference) = Some (units_left s member reference)
rest_named s command = None

abbrev pub number_field : Option ℕ → List ℕ
number_field None = []
number_field (Some number) = decimal number

-- the fields from the answer to the rest; those behind the answer are empty where the row was refused
abbrev pub answer_fields : ℕ → Option ℕ → Result Reply Refusal → List ℕ
answer_fields tick rest (Ok reply) = codes "accepted," ++ reply_fields tick reply ++ codes "," ++ number_field rest
answer_fields tick rest (Err refusal) = refusal_word refusal ++ codes ",,,,,,,"

-- a price and the units at it
abbrev pub priced_fields : ℕ → Option (ℕ × ℕ) → List ℕ
priced_fields tick None = codes ","
priced_fields tick (Some priced) = price_text priced.0 tick ++ codes "," ++ decimal priced.1

-- the market of a state: the best limits with the units that rest at them, the two reference prices, and in a call its price and
-- volume, if it ended now
abbrev pub market_fields : State → List ℕ
market_fields s =
    priced_fields s.settings.tick (level_in s Buy None) ++ codes "," ++ priced_fields s.settings.tick (level_in s Sell None)
    ++ codes "," ++ price_text (ref1 s) s.settings.tick ++ codes "," ++ price_text (ref2 s) s.settings.tick ++ codes "," ++ priced_fields s.settings.tick (indicative s)

-- a byte of a field in quotation marks: one of these stands twice
abbrev pub byte_in_quotes : ℕ → List ℕ
byte_in_quotes byte = if byte == 34 then 34 ∷ 34 ∷ [] else byte ∷ []

-- a field as CSV writes it: in quotation marks where it has one, a comma or a line's end
abbrev pub quoted_field : List ℕ → List ℕ
quoted_field text = if list_any is_mark text then 34 ∷ flat_map byte_in_quotes text ++ 34 ∷ [] else text

-- the fields from the security on where it is unknown: it has no name and no market
abbrev pub unknown_fields : Result Reply Refusal → List ℕ
unknown_fields answer = codes "," ++ answer_word answer ++ codes ",,,,,,,,,,,,,,,"

-- the same by the state of the security after the row, where there is one
abbrev pub security_fields : NameLists → Row → Result Reply Refusal → Option State → List ℕ
security_fields names row answer None = unknown_fields answer
security_fields names row answer (Some s) =
    name_at names.securities row.security ++ codes "," ++ answer_fields s.settings.tick (rest_named s row.command) answer ++ codes "," ++ market_fields s

-- the line of a row with these fields from the security on, whose record has this free text
abbrev pub record_line : Row → List ℕ → List ℕ → List ℕ
record_line row text fields = decimal row.line ++ codes "," ++ fields ++ codes "," ++ quoted_field text ++ codes "\n"

-- the same by the answer, and by the state of the security after the row
abbrev pub answer_line : NameLists → Row → List ℕ → Result Reply Refusal → Option State → List ℕ
answer_line names row text answer state = record_line row text (security_fields names row answer state)

-- the line of a row that a day takes, where records have these texts by their numbers
abbrev pub told_of : NameLists → (ℕ → List ℕ) → Day → Row → List ℕ
told_of names texts d row = told_behind (answer_line names) texts d row

-- those of rows that it takes one after another
abbrev pub answers_of : NameLists → (ℕ → List ℕ) → Day → List Row → List ℕ
answers_of names texts d rows = told_of_rows (told_of names texts) d rows

abbrev pub answers_header : List ℕ
answers_header =
    codes "record,security,answer,version,phase,first_trade,trades,quantity,money,rest,best_buy,buy_quantity,best_sell,sell_quantity,last,auction,indicative,indicative_quantity,text\n"

-- the answers to the rows of a day, where records have these texts by their numbers
abbrev pub answers_text : NameLists → SegmentConfig → (ℕ → List ℕ) → List Row → List ℕ
answers_text names config texts rows = answers_header ++ answers_of names texts (opening_day config) rows

-- the records of these rows have the same texts by both
abbrev pub AgreeOn : (ℕ → List ℕ) → (ℕ → List ℕ) → List Row → Type 0
AgreeOn texts own rows = All (λ (row : Row). texts row.line ≡ own row.line) rows

-- a text that goes on with more, where it is asked for
abbrev pub with_text : List ℕ → Option (List ℕ) → Option (List ℕ)
with_text more None = None
with_text more (Some text) = Some (text ++ more)

-- what is told where it is asked for
abbrev pub where_asked : {A : Type 0} → Bool → A → Option A
where_asked false told = None
where_asked true told = Some told
