-- What desks have taken of the rows of an order file, and what they told of them.
use Rattle.std.specs.Prelude.{◌≡◌, ℕ, ◌+◌, List, [], ◌++◌, length, option_map, slice_get, sum_by, Option, None, Some, Result, Ok, Err}
use Rattle.std.specs.Bool.{OnFalse, OnTrue}
use Rattle.xm_config.specs.Day.{Day, LacksMemoryAt, after_row, day, day_of, opening_day}
use Rattle.xm_texts.specs.Feeds.{feed_of, next_feed}
use Rattle.xm_texts.specs.RowAnswers.{AgreeOn, answers_text, told_of, where_asked, with_text}
use Rattle.xm_texts.specs.RowEvents.{events_text, told_events}
use Rattle.xm_texts.specs.RowTrades.{told_trades, trades_text}
use Rattle.xm_replay.specs.declared.desks.OpenDay.{OpenDay}
use Rattle.xm_replay.specs.declared.faults.DayFault.{DayFault}
use Rattle.xm_replay.specs.declared.faults.DayFault.TheVariants.{Open, OutOfMemory}
use Rattle.xm_texts.specs.declared.asked.AskedTexts.{AskedTexts}
use Rattle.xm_texts.specs.declared.told.Told.{Told}
use Rattle.xm_texts.specs.Asked.{AsksNothing}
use Rattle.xm_config.specs.declared.opening.OpenFault.{OpenFault}
use Rattle.xm_config.specs.declared.opening.OpenFault.TheVariants as opening
use Rattle.xm_files.specs.Batches.{RowsLeft, rows_from}
use Rattle.xm_files.specs.FileFaults.{is_from_outside}
use Rattle.xm_files.specs.Names.{NameLists}
use Rattle.xm_files.specs.OrderFiles.{AreBytesOf, HaveFault, HaveNoneBefore, orders_of_files, text_in_files}
use Rattle.xm_files.specs.declared.file_faults.FileFault.{FileFault}
use Rattle.xm_files.specs.declared.file_faults.OrdersFault.{OrdersFault}
use Rattle.xm_rules.specs.Step.{Journal}
use Rattle.xm_config.specs.Opening.{segment_fault}
use Rattle.xm_config.specs.declared.config.SegmentConfig.{SegmentConfig}
use Rattle.xm_config.specs.declared.rows.Row.{Row}

-- the commands of all journals
abbrev pub commands_in : List Journal → ℕ
commands_in journals = sum_by (λ (j : Journal). length j.commands) journals

-- the first limit that the segment does not keep, or memory is wanting where it keeps them all
abbrev pub IsOpenFault : SegmentConfig → OpenFault → Type 0
IsOpenFault config (opening.OutOfMemory _) = segment_fault config ≡ None
IsOpenFault config fault = segment_fault config ≡ Some fault

-- desks have taken these rows in their order, whose records have these texts by their numbers: their day is that of the rows, and so are the texts that are asked for
pub record TookRows (asked : AskedTexts) (names : NameLists) (texts : ℕ → List ℕ) (config : SegmentConfig) (rows : List Row) (d : OpenDay) : Type 0 where
  pub sound : segment_fault config ≡ None
  pub each : length d.desks.items ≡ length config.securities
  pub day_is : day_of d.desks.items d.report.accepted d.report.refused ≡ day config rows
  pub all : d.report.accepted + d.report.refused ≡ length rows
  pub answers_are : d.told.answers ≡ where_asked asked.answers (answers_text names config texts rows)
  pub trades_are : d.told.trades ≡ where_asked asked.trades (trades_text names config texts rows)
  pub events_are : d.told.events ≡ where_asked asked.events (events_text names config rows)
  pub depth_is : d.told.depth ≡ where_asked asked.depth (feed_of names config rows)

-- the desks of a day have taken one more row, and what is told of it has been added
pub record TookRow (names : NameLists) (texts : ℕ → List ℕ) (before : Day) (row : Row) (told : Told) (after : Day) (more : Told) : Type 0 where
  pub day_is : after ≡ after_row before row
  pub answers_are : more.answers ≡ with_text (told_of names texts before row) told.answers
  pub trades_are : more.trades ≡ with_text (told_trades names texts before row) told.trades
  pub events_are : more.events ≡ with_text (told_events names before row) told.events
  pub depth_is : more.depth ≡ option_map (next_feed names row (slice_get (after_row before row).states row.security)) told.depth

-- the desks have taken these rows, unless the segment can't be opened or memory is wanting, where nothing is asked for at one
-- of them
abbrev pub HasTaken : AskedTexts → NameLists → (ℕ → List ℕ) → SegmentConfig → List Row → Result OpenDay DayFault → Type 0
HasTaken asked names texts config rows (Ok d) = TookRows asked names texts config rows d
HasTaken asked names texts config rows (Err (Open fault)) = IsOpenFault config fault
HasTaken asked names texts config rows (Err (OutOfMemory _)) = (segment_fault config ≡ None) × (AsksNothing asked → LacksMemoryAt (opening_day config) rows)
HasTaken asked names texts config rows (Err fault) = ⊥

-- how many rows desks have taken, where nothing went wrong
abbrev pub taken_so_far : Result OpenDay DayFault → ℕ
taken_so_far (Ok d) = d.report.accepted + d.report.refused
taken_so_far (Err fault) = 0

-- where desks had taken any rows, they have taken these as well, whose records have these texts
abbrev pub TakesOn : NameLists → (ℕ → List ℕ) → Result OpenDay DayFault → SegmentConfig → List Row → Result OpenDay DayFault → Type 0
TakesOn names own before config rows after =
    (asked : AskedTexts) (texts : ℕ → List ℕ) (earlier : List Row) → AgreeOn texts own rows → HasTaken asked names texts config earlier before → HasTaken asked names texts config (earlier ++ rows) after

-- the same, where it isn't told at which row memory is wanting
abbrev pub RowsTaken : AskedTexts → NameLists → (ℕ → List ℕ) → SegmentConfig → List Row → Result OpenDay DayFault → Type 0
RowsTaken asked names texts config rows (Ok d) = TookRows asked names texts config rows d
RowsTaken asked names texts config rows (Err (Open fault)) = IsOpenFault config fault
RowsTaken asked names texts config rows (Err (OutOfMemory _)) = segment_fault config ≡ None
RowsTaken asked names texts config rows (Err fault) = ⊥

-- the desks are those of a day that the rows may have, unless the segment can't be opened or memory is wanting
abbrev pub DesksEnd : (SegmentConfig → List Row → Day → Type 0) → SegmentConfig → List Row → Result OpenDay DayFault → Type 0
DesksEnd days config rows (Ok d) =
    (segment_fault config ≡ None) × (length d.desks.items ≡ length config.securities) × days config rows (day_of d.desks.items d.report.accepted d.report.refused)
DesksEnd days config rows (Err (Open fault)) = IsOpenFault config fault
DesksEnd days config rows (Err (OutOfMemory _)) = segment_fault config ≡ None
DesksEnd days config rows (Err fault) = ⊥

-- the fault is the first one of the order files of a day, of each of which the bytes are told where they are known; or a reader or the memory
-- failed, which has no line. The files before it have none
abbrev pub IsOrdersFault : NameLists → SegmentConfig → List (Option (List ℕ)) → OrdersFault → Type 0
IsOrdersFault names config known fault =
    OnFalse (is_from_outside fault.fault.cause) (HaveFault names config known fault) × OnTrue (is_from_outside fault.fault.cause) (fault.fault.line ≡ 0)
    × HaveNoneBefore names config known fault.file

-- what has taken the rows of the order files of a day, whose records have the texts of these files, or their first fault
abbrev pub FilesRun : {A : Type 0} → ((ℕ → List ℕ) → SegmentConfig → List Row → A → Type 0) → SegmentConfig → NameLists → List (Option (List ℕ)) → Result A OrdersFault → Type 0
FilesRun taken config names known (Ok day) =
    (files : List (List ℕ)) × AreBytesOf known files × (rows : List Row) × (orders_of_files names config files ≡ Ok rows) × taken (text_in_files files) config rows day
FilesRun taken config names known (Err fault) = IsOrdersFault names config known fault

-- what has taken the rows of an order file, if it has no fault
abbrev pub RowsRun : {A : Type 0} → (SegmentConfig → List Row → A → Type 0) → SegmentConfig → NameLists → RowsLeft → Result A FileFault → Type 0
RowsRun taken config names file (Ok day) = (rows : List Row) × (rows_from names config file [] ≡ Ok rows) × taken config rows day
RowsRun taken config names file (Err fault) = OnFalse (is_from_outside fault.cause) (rows_from names config file [] ≡ Err fault) × OnTrue (is_from_outside fault.cause) (fault.line ≡ 0)
