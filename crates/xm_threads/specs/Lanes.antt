-- Securities that take the rows of their segment apart: each its own, in their order.
use Rattle.std.specs.Prelude.{◌≡◌, ◌≢◌, ℕ, ◌+◌, ◌<◌, ◌≤◌, ◌==◌, ◌++◌, All, Bool, ◌||◌, false, true, if◌then◌else◌, List, [], ◌∷◌, fold, length, map, slice_get, slice_index_or, slice_set, Option, Some, None, is_some, Result, Ok, Err, IfErr, OnOk}
use Rattle.std.specs.Bool.{OnTrue}
use Rattle.std.specs.List.{flat_map}
use Rattle.xm_replay.specs.Taken.{IsOpenFault}
use Rattle.xm_config.specs.Day.{answer_on}
use Rattle.xm_desk.specs.Answered.{journal_after}
use Rattle.xm_threads.specs.KeptRows.{KeptRow, behind_first}
use Rattle.xm_texts.specs.MarketDepth.{depth_header, depth_text, told_change}
use Rattle.xm_texts.specs.RowAnswers.{AgreeOn, answers_header, answers_text, record_line, security_fields, unknown_fields, where_asked, with_text}
use Rattle.xm_texts.specs.RowEvents.{events_header, events_text, row_events}
use Rattle.xm_texts.specs.RowTrades.{row_trades, trades_header, trades_text}
use Rattle.xm_replay.specs.declared.faults.DayFault.{DayFault}
use Rattle.xm_replay.specs.declared.faults.DayFault.TheVariants.{Open, OutOfMemory}
use Rattle.xm_texts.specs.declared.asked.AskedTexts.{AskedTexts}
use Rattle.xm_files.specs.Batches.{RowsLeft, RowsRead, rows_from, rows_so_far}
use Rattle.xm_files.specs.FileFaults.{is_from_outside}
use Rattle.xm_files.specs.Names.{NameLists}
use Rattle.xm_files.specs.Orders.{max_lines}
use Rattle.xm_files.specs.declared.file_faults.FileCause.TheVariants.{OutOfMemory as NoMemory}
use Rattle.xm_files.specs.declared.file_faults.FileFault.{FileFault}
use Rattle.xm_rules.specs.State.{State}
use Rattle.xm_rules.specs.Step.{Journal, replay}
use Rattle.xm_rules.specs.declared.replies.Refusal.{Refusal}
use Rattle.xm_rules.specs.declared.replies.Refusal.TheVariants.{UnknownSecurity}
use Rattle.xm_rules.specs.declared.replies.Reply.{Reply}
use Rattle.xm_config.specs.Opening.{journal_of, segment_fault}
use Rattle.xm_config.specs.declared.config.SegmentConfig.{SegmentConfig}
use Rattle.xm_config.specs.declared.rows.Row.{Row}

-- a security that takes its rows: what is asked for of them, its journal, what it keeps of its rows that weren't told yet, and whether memory
-- was wanting for a row
pub record LaneView : Type 0 where
  pub asked : AskedTexts
  pub journal : Journal
  pub kept : List KeptRow
  pub lacks_memory : Bool

-- one that has told all
abbrev pub fresh_lane : AskedTexts → Journal → LaneView
fresh_lane asked j = record { asked = asked; journal = j; kept = []; lacks_memory = false }

-- the journal of the security with this index behind a row of the segment
abbrev pub own_row : ℕ → Journal → Row → Journal
own_row k j row = if row.security == k then journal_after j row.command else j

abbrev pub own_rows : ℕ → Journal → List Row → Journal
own_rows k j rows = fold (own_row k) j rows

abbrev pub asks_any : AskedTexts → Bool
asks_any asked = asked.answers || asked.trades || asked.depth || asked.events

-- what isn't asked for is empty
abbrev pub if_asked : {A : Type 0} → Bool → List A → List A
if_asked asked told = if asked then told else []

-- what is kept of a row that was answered so, by the state of its security behind it, and the lines of its levels and of its events
abbrev pub kept_row : AskedTexts → NameLists → Row → Result Reply Refusal → State → List ℕ → List ℕ → KeptRow
kept_row asked names row answer state levels events = record {
  answer = if_asked asked.answers (security_fields names row answer (Some state));
  trades = if_asked asked.trades (row_trades names row answer (Some state));
  levels = if_asked asked.depth levels;
  events = if_asked asked.events events;
}

-- what a security keeps of a row of its own
abbrev pub own_kept : AskedTexts → NameLists → Journal → Row → KeptRow
own_kept asked names j row =
    kept_row asked names row (answer_on row (Some (replay j))) (replay (journal_after j row.command)) (told_change names row (Some (replay j)) (Some (replay (journal_after j row.command))))
    (row_events names row (answer_on row (Some (replay j))) (Some (replay j)))

-- a security behind a row of its own; it keeps none where nothing is asked for
abbrev pub lane_after : NameLists → LaneView → Row → LaneView
lane_after names l row = record l {
  journal = journal_after l.journal row.command;
  kept = l.kept ++ if_asked (asks_any l.asked) (own_kept l.asked names l.journal row ∷ []);
}

-- the security with this index behind a row of the segment
abbrev pub lane_row : NameLists → ℕ → LaneView → Row → LaneView
lane_row names k l row = if row.security == k then lane_after names l row else l

abbrev pub lane_rows : NameLists → ℕ → LaneView → List Row → LaneView
lane_rows names k l rows = fold (lane_row names k) l rows

-- the securities from this index on have taken their rows of these, those aside for which memory was wanting
abbrev pub TookOwnRows : NameLists → ℕ → List LaneView → List Row → List LaneView → Type 0
TookOwnRows names first before rows after =
    (k : ℕ) (d : LaneView) → k < length before → (slice_index_or after k d).lacks_memory ≡ false
    → ((slice_index_or before k d).lacks_memory ≡ false) × (slice_index_or after k d ≡ lane_rows names (first + k) (slice_index_or before k d) rows)

-- the securities of a segment have taken their rows of these since it was opened, those aside for which memory was wanting
pub record AreTaken (config : SegmentConfig) (rows : List Row) (lanes : List LaneView) : Type 0 where
  pub each : length lanes ≡ length config.securities
  pub taken : (k : ℕ) (d : LaneView) → k < length lanes → (slice_index_or lanes k d).lacks_memory ≡ false → (slice_index_or lanes k d).journal ≡ own_rows k (slice_index_or (map (journal_of config) config.securities) k d.journal) rows

-- ---- what they tell of their rows

-- the texts so far that are told of the rows of a segment, as far as they are asked for
pub record TextsView : Type 0 where
  pub answers : Option (List ℕ)
  pub trades : Option (List ℕ)
  pub levels : Option (List ℕ)
  pub events : Option (List ℕ)

abbrev pub texts_where : AskedTexts → List ℕ → List ℕ → List ℕ → List ℕ → TextsView
texts_where asked answers trades levels events = record {
  answers = where_asked asked.answers answers;
  trades = where_asked asked.trades trades;
  levels = where_asked asked.depth levels;
  events = where_asked asked.events events;
}

abbrev pub tells_any : TextsView → Bool
tells_any t = is_some t.answers || is_some t.trades || is_some t.levels || is_some t.events

-- they go on with what is kept of a row, whose record has this free text
abbrev pub with_kept : Row → List ℕ → KeptRow → TextsView → TextsView
with_kept row text kept t = record {
  answers = with_text (record_line row text kept.answer) t.answers;
  trades = with_text (flat_map (record_line row text) kept.trades) t.trades;
  levels = with_text kept.levels t.levels;
  events = with_text kept.events t.events;
}

-- and with the first row that is kept, where there is one
abbrev pub with_first : Row → List ℕ → List KeptRow → TextsView → TextsView
with_first row text [] t = t
with_first row text (kept ∷ more) t = with_kept row text kept t

-- what is told of a row of an unknown security: its answer, and that it was refused
abbrev pub unknown_row : NameLists → Row → KeptRow
unknown_row names row = record { answer = unknown_fields (Err UnknownSecurity); trades = []; levels = []; events = row_events names row (Err UnknownSecurity) None }

-- the securities of a segment, and the texts of their rows so far
pub record LanesAndTexts : Type 0 where
  pub lanes : List LaneView
  pub texts : TextsView

-- they go on with a row of this security, if it is known: it tells what it keeps next
abbrev pub told_by_lane : NameLists → Row → List ℕ → Option LaneView → LanesAndTexts → LanesAndTexts
told_by_lane names row text None s = record s { texts = with_kept row text (unknown_row names row) s.texts }
told_by_lane names row text (Some l) s = record { lanes = slice_set s.lanes row.security (record l { kept = behind_first l.kept }); texts = with_first row text l.kept s.texts }

-- and with a row, where records have these texts by their numbers
abbrev pub told_row : NameLists → (ℕ → List ℕ) → LanesAndTexts → Row → LanesAndTexts
told_row names texts s row = told_by_lane names row (texts row.line) (slice_get s.lanes row.security) s

-- texts go on with what securities keep of these rows, one after another, where records have these texts of their own by their numbers; nothing happens where no text is asked for
abbrev pub IsAdded : NameLists → (ℕ → List ℕ) → List Row → List LaneView → TextsView → List LaneView → TextsView → Type 0
IsAdded names own rows old before new after =
    record { lanes = new; texts = after } ≡ if tells_any before then fold (told_row names own) (record { lanes = old; texts = before }) rows else record { lanes = old; texts = before }

-- the texts, and whether memory was wanting for them
pub record MergedView : Type 0 where
  pub texts : TextsView
  pub lacks_memory : Bool

-- securities have told all of these rows, whose records have these texts by their numbers
pub record ToldRows (asked : AskedTexts) (names : NameLists) (texts : ℕ → List ℕ) (config : SegmentConfig) (rows : List Row) (lanes : List LaneView) (told : TextsView) : Type 0 where
  pub lanes_are : (k : ℕ) (d : LaneView) → k < length lanes → slice_index_or lanes k d ≡ fresh_lane asked (own_rows k (slice_index_or (map (journal_of config) config.securities) k d.journal) rows)
  pub texts_are : told ≡ texts_where asked (answers_text names config texts rows) (trades_text names config texts rows) (depth_text names config rows) (events_text names config rows)

-- the same, unless memory was wanting
abbrev pub AreTold : AskedTexts → NameLists → (ℕ → List ℕ) → SegmentConfig → List Row → List LaneView → MergedView → Type 0
AreTold asked names texts config rows lanes merged =
    merged.lacks_memory ≡ false → All (λ (l : LaneView). l.lacks_memory ≡ false) lanes → ToldRows asked names texts config rows lanes merged.texts

-- they have taken these rows, unless memory was wanting for what they tell
abbrev pub AreTakenSoFar : SegmentConfig → List Row → List LaneView → MergedView → Type 0
AreTakenSoFar config rows lanes merged = merged.lacks_memory ≡ false → AreTaken config rows lanes

-- they have taken so many rows of some day
abbrev pub TookSoMany : SegmentConfig → ℕ → List LaneView → MergedView → Type 0
TookSoMany config count lanes merged = (rows : List Row) × (length rows ≡ count) × AreTakenSoFar config rows lanes merged

-- they have taken their rows of these as well, whose records have these texts, and told of them
pub record TookMore (names : NameLists) (own : ℕ → List ℕ) (rows : List Row) (old : List LaneView) (before : MergedView) (new : List LaneView) (after : MergedView) : Type 0 where
  pub since_opening : (config : SegmentConfig) (earlier : List Row) → AreTakenSoFar config earlier old before → AreTakenSoFar config (earlier ++ rows) new after
  pub told : (asked : AskedTexts) (texts : ℕ → List ℕ) (config : SegmentConfig) (earlier : List Row) → AgreeOn texts own rows → length old ≡ length config.securities
      → AreTold asked names texts config earlier old before → AreTold asked names texts config (earlier ++ rows) new after

-- they have taken their rows of an order file, which are so many, whose records have these texts
pub record TookFile (names : NameLists) (own : ℕ → List ℕ) (old : List LaneView) (before : MergedView) (new : List LaneView) (after : MergedView) (config : SegmentConfig) (rows : List Row) (count : ℕ) : Type 0 where
  pub counted : count ≡ length rows
  pub took : TookMore names own rows old before new after

-- this fault keeps the segment from being opened, or memory was wanting
abbrev pub IsUnopened : SegmentConfig → DayFault → Type 0
IsUnopened config (Open fault) = IsOpenFault config fault
IsUnopened config (OutOfMemory _) = segment_fault config ≡ None
IsUnopened config fault = ⊥

-- the securities of a segment were opened, unless it can't be, or memory was wanting
abbrev pub AreOpened : {A : Type 0} → (A → List LaneView) → AskedTexts → SegmentConfig → Result A DayFault → Type 0
AreOpened lanes_in asked config (Ok opened) = (segment_fault config ≡ None) × (lanes_in opened ≡ map (fresh_lane asked) (map (journal_of config) config.securities))
AreOpened lanes_in asked config (Err fault) = IsUnopened config fault

-- they were opened, and have told nothing yet
pub record HaveBegun (asked : AskedTexts) (config : SegmentConfig) (lanes : List LaneView) (merged : MergedView) : Type 0 where
  pub sound : segment_fault config ≡ None
  pub lanes_are : lanes ≡ map (fresh_lane asked) (map (journal_of config) config.securities)
  pub texts_are : merged.lacks_memory ≡ false → merged.texts ≡ texts_where asked answers_header trades_header depth_header events_header

-- the same, unless a fault kept them from being opened
abbrev pub HaveBegunUnless : Option DayFault → AskedTexts → SegmentConfig → List LaneView → MergedView → Type 0
HaveBegunUnless None asked config lanes merged = HaveBegun asked config lanes merged
HaveBegunUnless (Some fault) asked config lanes merged = IsUnopened config fault

-- a batch of rows was read behind the rows so far, and perhaps the last of the file; or the fault of the file was met
pub record IsReadBehind (names : NameLists) (config : SegmentConfig) (before : List Row) (old new : RowsLeft) (next : RowsRead) (result : Result Bool FileFault) : Type 0 where
  pub read : OnOk result (rows_from names config old before ≡ rows_from names config new (rows_so_far next))
  pub ended : result ≡ Ok false → rows_from names config new (rows_so_far next) ≡ Ok (rows_so_far next)
  pub earlier : OnOk result (next.earlier ≡ before)
  pub further : result ≡ Ok true → old.line < new.line
  pub bounded : new.line ≤ max_lines
  pub counted : OnOk result (new.line + length new.records ≡ old.line + length old.records)
  pub none : result ≡ Ok false → new.records ≡ []
  pub err : IfErr result (λ fault. fault.cause ≢ NoMemory tt → rows_from names config old before ≡ Err fault)
  pub memory : IfErr result (λ fault. OnTrue (is_from_outside fault.cause) (fault.line ≡ 0))
