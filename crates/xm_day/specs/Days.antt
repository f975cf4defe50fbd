-- The day of a segment as a value: its texts, or the fault that it has. The bytes of a file may be unknown.
use Rattle.std.specs.Prelude.{◌≡◌, ◌⊎◌, ◌==◌, ◌&&◌, ℕ, Bool, false, true, if◌then◌else◌, List, [], length, map, Option, None, Some, option_map, unwrap_or, Result, Ok, Err}
use Rattle.std.specs.List.{list_all}
use Rattle.std.specs.Io.KnownBytes.{Appends}
use Rattle.xm_day.specs.Answers.{OrdersRun, IsFileFault, IsSegmentOf, statement_of}
use Rattle.xm_day.specs.CarriedDays.{IsCarryFault, OpensWith, Outputs, carry_text_of}
use Rattle.xm_day.specs.declared.value.DayTexts.{DayTexts}
use Rattle.xm_day.specs.declared.value.Completeness.{Completeness}
use Rattle.xm_day.specs.declared.value.Completeness.TheVariants.{Complete, Incomplete}
use Rattle.xm_day.specs.declared.value.HandsOn.{HandsOn}
use Rattle.xm_day.specs.declared.value.HandsOn.TheVariants.{Nothing, WhatIsLeft}
use Rattle.xm_day.specs.declared.taking.TakenDay.{TakenDay}
use Rattle.xm_files.specs.Names.{NameLists}
use Rattle.xm_files.specs.Segment.{segment_of}
use Rattle.xm_files.specs.declared.file_faults.FileFault.{FileFault}
use Rattle.xm_config.specs.Day.{Day, day_of}
use Rattle.xm_texts.specs.Feeds.{Feed, feed_of}
use Rattle.xm_texts.specs.MarketDepth.{depth_text}
use Rattle.xm_texts.specs.RowAnswers.{answers_text, where_asked}
use Rattle.xm_texts.specs.RowEvents.{events_text}
use Rattle.xm_texts.specs.RowTrades.{trades_text}
use Rattle.xm_replay.specs.Taken.{DesksEnd, IsOpenFault}
use Rattle.xm_rules.specs.Refusals.{is_ended}
use Rattle.xm_rules.specs.State.{State}
use Rattle.xm_texts.specs.Asked.{TellsNothing}
use Rattle.xm_replay.specs.declared.desks.OpenDay.{OpenDay}
use Rattle.xm_replay.specs.declared.faults.DayFault.{DayFault}
use Rattle.xm_replay.specs.declared.faults.DayFault.TheVariants.{Segment, Carry, Open, OutOfMemory, WriteFailed}
use Rattle.xm_texts.specs.declared.asked.AskedTexts.{AskedTexts}
use Rattle.xm_replay.specs.declared.report.DayReport.{DayReport}
use Rattle.xm_config.specs.Opening.{segment_fault}
use Rattle.xm_config.specs.declared.config.SegmentConfig.{SegmentConfig}
use Rattle.xm_config.specs.declared.rows.Row.{Row}
use Rattle.xm_rules.specs.Step.{replay}
use Rattle.xm_texts.specs.Carry.{carry_text}
use Rattle.xm_ticks.specs.Writing.{AppendsPrefix}
use Rattle.xm_workers.specs.Workers.{IsShared}

-- ---- what a day is read from

-- the files of a day, as far as their bytes are known: a carry file is among them, if the day opens with one
pub record DayFiles : Type 0 where
  pub segment : Option (List ℕ)
  pub carried : Option (Option (List ℕ))
  pub orders : List (Option (List ℕ))

-- a segment opens with the settings and the names of its file, and with what the carry file lists for each security, if there is one
abbrev pub OpensBy : Option (List ℕ) → Option (Option (List ℕ)) → SegmentConfig → NameLists → Type 0
OpensBy segment None config names = IsSegmentOf segment config names
OpensBy segment (Some carry) config names = OpensWith segment carry config names

-- the fault is that of the carry file, if there is one, of a segment whose own file has none
abbrev pub HasCarryFault : Option (List ℕ) → Option (Option (List ℕ)) → FileFault → Type 0
HasCarryFault segment None fault = ⊥
HasCarryFault segment (Some carry) fault = IsCarryFault segment carry fault

-- how the files are read that a segment opens with
abbrev pub OpeningRead : Option (List ℕ) → Option (Option (List ℕ)) → Result (SegmentConfig × NameLists) DayFault → Type 0
OpeningRead segment carried (Ok read) = OpensBy segment carried read.0 read.1
OpeningRead segment carried (Err (Segment fault)) = IsFileFault segment_of segment fault
OpeningRead segment carried (Err (Carry fault)) = HasCarryFault segment carried fault
OpeningRead segment carried (Err fault) = ⊥

-- ---- its rows

-- the day of desks that took rows
abbrev pub taken_day : OpenDay → Day
taken_day d = day_of d.desks.items d.report.accepted d.report.refused

-- desks have taken these rows, whose records have these texts by their numbers: their day is one that the rows may have, the text is its
-- statement, and what is asked for was told of the rows
pub record HasTakenRows (days : SegmentConfig → List Row → Day → Type 0) (asked : AskedTexts) (names : NameLists) (texts : ℕ → List ℕ) (config : SegmentConfig) (rows : List Row) (t : TakenDay) : Type 0 where
  pub sound : segment_fault config ≡ None
  pub each : length t.day.desks.items ≡ length config.securities
  pub is_of_rows : days config rows (taken_day t.day)
  pub statement_is : t.statement ≡ statement_of names (taken_day t.day)
  pub answers_are : t.day.told.answers ≡ where_asked asked.answers (answers_text names config texts rows)
  pub trades_are : t.day.told.trades ≡ where_asked asked.trades (trades_text names config texts rows)
  pub events_are : t.day.told.events ≡ where_asked asked.events (events_text names config rows)
  pub depth_is : t.day.told.depth ≡ where_asked asked.depth (feed_of names config rows)

-- the same, unless the segment can't be opened or memory is wanting
abbrev pub TakesRows : (SegmentConfig → List Row → Day → Type 0) → AskedTexts → NameLists → (ℕ → List ℕ) → SegmentConfig → List Row → Result TakenDay DayFault → Type 0
TakesRows days asked names texts config rows (Ok t) = HasTakenRows days asked names texts config rows t
TakesRows days asked names texts config rows (Err (Open fault)) = IsOpenFault config fault
TakesRows days asked names texts config rows (Err (OutOfMemory _)) = segment_fault config ≡ None
TakesRows days asked names texts config rows (Err fault) = ⊥

-- how the rows of order files are taken, which may have a fault
abbrev pub TakesFile : (SegmentConfig → List Row → Day → Type 0) → AskedTexts → SegmentConfig → NameLists → List (Option (List ℕ)) → Result TakenDay DayFault → Type 0
TakesFile days asked config names orders result = OrdersRun (TakesRows days asked names) config names orders result

-- the statement alone is asked for
abbrev pub nothing_asked : AskedTexts
nothing_asked = record { answers = false; trades = false; events = false; depth = false }

-- the rows that workers share are taken so, and nothing is told of them
abbrev pub SharesRows : ℕ → (ℕ → List ℕ) → SegmentConfig → List Row → Result OpenDay DayFault → Type 0
SharesRows workers texts config rows (Ok d) = DesksEnd (IsShared workers) config rows (Ok d) × TellsNothing d.told
SharesRows workers texts config rows (Err fault) = DesksEnd (IsShared workers) config rows (Err fault)

-- the same desks and counts, and nothing is told of rows; or the same fault
abbrev pub IsUntold : Result OpenDay DayFault → Result OpenDay DayFault → Type 0
IsUntold (Err fault) result = result ≡ Err fault
IsUntold (Ok d) (Err fault) = ⊥
IsUntold (Ok d) (Ok same) = (same.desks.items ≡ d.desks.items) × (same.report ≡ d.report) × TellsNothing same.told

-- the desks, what they count and what was told are as before, and the text is the statement
pub record States (names : NameLists) (d : OpenDay) (t : TakenDay) : Type 0 where
  pub desks_are : t.day.desks.items ≡ d.desks.items
  pub report_is : t.day.report ≡ d.report
  pub told_is : t.day.told ≡ d.told
  pub statement_is : t.statement ≡ statement_of names (taken_day d)

-- what took the rows has its statement, or the fault that it had, or there is no memory for its text
abbrev pub IsStated : NameLists → Result OpenDay DayFault → Result TakenDay DayFault → Type 0
IsStated names (Err fault) result = result ≡ Err fault
IsStated names (Ok d) (Err fault) = fault ≡ OutOfMemory tt
IsStated names (Ok d) (Ok t) = States names d t

-- ---- its texts

-- a text where it is asked for, and else none
abbrev pub text_where : Bool → List ℕ → List ℕ
text_where true text = text
text_where false text = []

abbrev pub hands_on : HandsOn → Bool
hands_on Nothing = false
hands_on WhatIsLeft = true

-- the day of a security has ended
abbrev pub has_ended : State → Bool
has_ended s = is_ended s.phase

-- a day is complete where none of its rows was refused, and each of its securities has ended
abbrev pub completeness_of : Day → Completeness
completeness_of d = if (d.refused == 0) && list_all has_ended d.states then Complete else Incomplete

-- the texts of a day that these rows may have, which are empty where they aren't asked for, its counts, and whether it is complete
pub record HasTexts (days : SegmentConfig → List Row → Day → Type 0) (asked : AskedTexts) (handing : HandsOn) (names : NameLists) (texts : ℕ → List ℕ) (config : SegmentConfig) (rows : List Row) (t : DayTexts) : Type 0 where
  pub sound : segment_fault config ≡ None
  pub day : Day
  pub is_of_rows : days config rows day
  pub statement_is : t.statement ≡ statement_of names day
  pub answers_are : t.answers.items ≡ text_where asked.answers (answers_text names config texts rows)
  pub trades_are : t.trades.items ≡ text_where asked.trades (trades_text names config texts rows)
  pub events_are : t.events.items ≡ text_where asked.events (events_text names config rows)
  pub depth_is : t.depth.items ≡ text_where asked.depth (depth_text names config rows)
  pub carry_is : t.carry.items ≡ text_where (hands_on handing) (carry_text_of names day)
  pub accepted : t.report.accepted ≡ day.accepted
  pub refused : t.report.refused ≡ day.refused
  pub completeness_is : t.completeness ≡ completeness_of day

-- the texts of what took the rows
pub record AreTextsOf (names : NameLists) (handing : HandsOn) (t : TakenDay) (texts : DayTexts) : Type 0 where
  pub statement_is : texts.statement ≡ t.statement
  pub answers_are : texts.answers.items ≡ unwrap_or t.day.told.answers []
  pub trades_are : texts.trades.items ≡ unwrap_or t.day.told.trades []
  pub events_are : texts.events.items ≡ unwrap_or t.day.told.events []
  pub depth_is : texts.depth.items ≡ unwrap_or (option_map (λ (f : Feed). f.text) t.day.told.depth) []
  pub carry_is : texts.carry.items ≡ text_where (hands_on handing) (carry_text names (map replay t.day.desks.items))
  pub report_is : texts.report ≡ t.day.report
  pub completeness_is : texts.completeness ≡ completeness_of (taken_day t.day)

-- the same, or the fault that this has, or there is no memory for the text of what is left
abbrev pub HasTextsOf : NameLists → HandsOn → Result TakenDay DayFault → Result DayTexts DayFault → Type 0
HasTextsOf names handing (Err fault) result = result ≡ Err fault
HasTextsOf names handing (Ok t) (Err fault) = fault ≡ OutOfMemory tt
HasTextsOf names handing (Ok t) (Ok texts) = AreTextsOf names handing t texts

-- the texts of a day of these rows, unless the segment can't be opened or memory is wanting
abbrev pub GivesTexts : (SegmentConfig → List Row → Day → Type 0) → AskedTexts → HandsOn → NameLists → (ℕ → List ℕ) → SegmentConfig → List Row → Result DayTexts DayFault → Type 0
GivesTexts days asked handing names texts config rows (Ok t) = HasTexts days asked handing names texts config rows t
GivesTexts days asked handing names texts config rows (Err (Open fault)) = IsOpenFault config fault
GivesTexts days asked handing names texts config rows (Err (OutOfMemory _)) = segment_fault config ≡ None
GivesTexts days asked handing names texts config rows (Err fault) = ⊥

-- what a day is whose segment is read, and whose rows may have such days: its texts, or its first fault: of the order files, of the
-- opening, or want of memory
abbrev pub IsDayOfRows : (SegmentConfig → List Row → Day → Type 0) → AskedTexts → HandsOn → SegmentConfig → NameLists → List (Option (List ℕ)) → Result DayTexts DayFault → Type 0
IsDayOfRows days asked handing config names orders result = OrdersRun (GivesTexts days asked handing names) config names orders result

-- what the day of these files is: that of the rows, or a fault of the segment file or of the carry file before it
abbrev pub IsDay : (SegmentConfig → List Row → Day → Type 0) → AskedTexts → HandsOn → DayFiles → Result DayTexts DayFault → Type 0
IsDay days asked handing files (Err (Segment fault)) = IsFileFault segment_of files.segment fault
IsDay days asked handing files (Err (Carry fault)) = HasCarryFault files.segment files.carried fault
IsDay days asked handing files result =
    (config : SegmentConfig) × (names : NameLists) × OpensBy files.segment files.carried config names × IsDayOfRows days asked handing config names files.orders result

-- ---- its texts as they are written

-- the statement was written and nothing else, or not all of it; or there was none
abbrev pub StatementWritten : Option (List ℕ) → Option (List ℕ) → Result DayTexts DayFault → Result DayReport DayFault → Type 0
StatementWritten old new (Err fault) result = result ≡ Err fault
StatementWritten old new (Ok t) (Err fault) = (fault ≡ WriteFailed) × AppendsPrefix old new t.statement
StatementWritten old new (Ok t) (Ok report) = (report ≡ t.report) × Appends old new t.statement

-- a beginning of the statement was written, which may be all, and nothing was kept; or all of it, and what was kept is no more than a part
abbrev pub BothBegun : Outputs → List ℕ → List ℕ → Type 0
BothBegun out statement carry =
    ((AppendsPrefix out.old out.new statement ⊎ Appends out.old out.new statement) × (out.kept_new ≡ out.kept_old))
    ⊎ (Appends out.old out.new statement × AppendsPrefix out.kept_old out.kept_new carry)

-- the statement was written, and then what the day leaves, or not all of both; or there was no day
abbrev pub BothWritten : Outputs → Result DayTexts DayFault → Result DayReport DayFault → Type 0
BothWritten out (Err fault) result = result ≡ Err fault
BothWritten out (Ok t) (Err fault) = (fault ≡ WriteFailed) × BothBegun out t.statement t.carry.items
BothWritten out (Ok t) (Ok report) = (report ≡ t.report) × Appends out.old out.new t.statement × Appends out.kept_old out.kept_new t.carry.items
