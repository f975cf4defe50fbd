-- The calls of a security, as they are told of the rows of a day: of each the candidates, the ranges, and the rule that decides the price.
use Rattle.std.specs.Prelude.{◌≡◌, ℕ, ◌==◌, Bool, true, false, ◌&&◌, if◌then◌else◌, List, [], ◌∷◌, ◌++◌, codes, slice_get, Option, Some, None, Result, Ok, Err, Vec}
use Rattle.std.specs.Fmt.{decimal}
use Rattle.std.specs.Option.{option_map_or}
use Rattle.std.specs.Str.{bytes_eq}
use Rattle.std.specs.Global.{Global}
use Rattle.xm_calls.specs.declared.asked.CallsAsked.{CallsAsked}
use Rattle.xm_calls.specs.declared.asked.Form.{Form}
use Rattle.xm_calls.specs.declared.asked.Form.TheVariants.{Plain, Csv}
use Rattle.xm_config.specs.Day.{Day, opening_day, told_of_rows}
use Rattle.xm_config.specs.Opening.{segment_fault}
use Rattle.xm_config.specs.declared.config.SegmentConfig.{SegmentConfig}
use Rattle.xm_config.specs.declared.rows.Row.{Row}
use Rattle.xm_files.specs.Names.{NameLists}
use Rattle.xm_reason_texts.specs.Blocks.{block_of, title_line}
use Rattle.xm_reason_texts.specs.Rows.{reasons_header, row_start, reason_rows_of}
use Rattle.xm_reason_texts.specs.declared.words.CallMoment.{CallMoment}
use Rattle.xm_reason_texts.specs.declared.words.CallMoment.TheVariants.{AtItsEnd, SoFar}
use Rattle.xm_reasons.specs.AskedRanges.{asked_ranges}
use Rattle.xm_reasons.specs.Candidates.{candidate_rows}
use Rattle.xm_reasons.specs.Rules.{decided_by}
use Rattle.xm_replay.specs.Taken.{IsOpenFault}
use Rattle.xm_replay.specs.declared.faults.DayFault.{DayFault}
use Rattle.xm_replay.specs.declared.faults.DayFault.TheVariants.{Open, OutOfMemory}
use Rattle.xm_rules.specs.Auction.{auction_price}
use Rattle.xm_rules.specs.State.{State, ranges, ref1}
use Rattle.xm_rules.specs.declared.commands.Command.{Command}
use Rattle.xm_rules.specs.declared.commands.Command.TheVariants.{Uncross}
use Rattle.xm_rules.specs.declared.phases.Auction.{Auction}
use Rattle.xm_rules.specs.declared.phases.CallStage.{CallStage}
use Rattle.xm_rules.specs.declared.phases.Phase.{Phase}
use Rattle.xm_rules.specs.declared.phases.Phase.TheVariants.{Call}

-- ---- which calls

abbrev pub ends_call : Command → Bool
ends_call Uncross = true
ends_call _ = false

-- a call is told before the row that ends it, or, where a record is asked for, before the row of this record
abbrev pub is_moment : Option ℕ → Row → Bool
is_moment None row = ends_call row.command
is_moment (Some number) row = row.line == number

-- the security with this index has this name
abbrev pub has_this_name : NameLists → List ℕ → ℕ → Bool
has_this_name names name security = option_map_or (bytes_eq name) (slice_get names.securities security) false

-- of the rows of the security with a name
abbrev pub is_told_at : NameLists → List ℕ → CallsAsked → Row → Bool
is_told_at names name asked row = has_this_name names name row.security && is_moment asked.at row

abbrev pub moment_of : Command → CallMoment
moment_of Uncross = AtItsEnd
moment_of _ = SoFar

-- ---- what is told of one

-- the price of a state's call is that of the auction; the candidates are those of its definition, each with its demand and its supply; and
-- the rule is the one that decides between them
abbrev pub text_in_call : List ℕ → Form → Row → State → Auction → CallStage → List ℕ
text_in_call name Plain row s auction stage =
    let price = auction_price s.phase s.orders (ref1 s) in
    block_of (title_line name row.line (moment_of row.command) auction stage) s.settings.tick (candidate_rows s) (ref1 s) (asked_ranges (ranges s) stage price) price (decided_by s.phase s.orders (ref1 s))
text_in_call name Csv row s auction stage =
    let price = auction_price s.phase s.orders (ref1 s) in
    reason_rows_of (row_start name row.line auction stage) s.settings.tick (candidate_rows s) (ref1 s) (asked_ranges (ranges s) stage price) price (decided_by s.phase s.orders (ref1 s))

-- outside a call nothing is told
abbrev pub in_phase : List ℕ → Form → Row → State → Phase → List ℕ
in_phase name form row s (Call auction stage) = text_in_call name form row s auction stage
in_phase name form row s _ = []

-- what is told before a row of its security, which has this name and stands so
abbrev pub call_text : List ℕ → Form → Row → State → List ℕ
call_text name form row s = in_phase name form row s s.phase

abbrev pub text_of_known : List ℕ → Form → Row → Option State → List ℕ
text_of_known name form row None = []
text_of_known name form row (Some s) = call_text name form row s

abbrev pub told_of_row : List ℕ → Form → List State → Row → List ℕ
told_of_row name form states row = text_of_known name form row (slice_get states row.security)

-- what a day tells before a row
abbrev pub told_before : NameLists → List ℕ → CallsAsked → Day → Row → List ℕ
told_before names name asked d row = if is_told_at names name asked row then told_of_row name asked.form d.states row else []

-- ---- what is told of the rows of a day

-- the text so far, of the calls that are asked for
pub record CallsTold : Type 0 where
  pub names : NameLists
  pub name : List ℕ
  pub asked : CallsAsked
  pub text : List ℕ

abbrev pub next_told : CallsTold → Day → Row → CallsTold
next_told seen d row = record seen { text = seen.text ++ told_before seen.names seen.name seen.asked d row }

-- what is said where no call is told
abbrev pub untold : List ℕ → Option ℕ → List ℕ
untold name None = name ++ codes ": no call ends in these files\n"
untold name (Some number) = name ++ codes ", record " ++ decimal number ++ codes ": it is in no call there, or this is no record of it\n"

abbrev pub or_untold : List ℕ → Option ℕ → List ℕ → List ℕ
or_untold name at [] = untold name at
or_untold name at (c ∷ cs) = c ∷ cs

-- the text of the calls that were told so: lines of CSV have a header
abbrev pub text_as : Form → List ℕ → Option ℕ → List ℕ → List ℕ
text_as Plain name at told = or_untold name at told
text_as Csv name at told = reasons_header ++ told

abbrev pub tables_text : List ℕ → CallsAsked → List ℕ → List ℕ
tables_text name asked told = text_as asked.form name asked.at told

-- the calls of a day of these rows, unless the segment can't be opened or memory is wanting
abbrev pub HasTables : NameLists → List ℕ → CallsAsked → SegmentConfig → List Row → Result (Vec ℕ Global) DayFault → Type 0
HasTables names name asked config rows (Ok text) =
    (segment_fault config ≡ None) × (text.items ≡ tables_text name asked (told_of_rows (told_before names name asked) (opening_day config) rows))
HasTables names name asked config rows (Err (Open fault)) = IsOpenFault config fault
HasTables names name asked config rows (Err (OutOfMemory _)) = segment_fault config ≡ None
HasTables names name asked config rows (Err fault) = ⊥
