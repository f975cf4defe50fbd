-- How the run of a day ends: what it answers, and what the output holds before and after. The bytes of a file may be unknown.
use Rattle.std.specs.Prelude.{◌≡◌, ℕ, List, Option, None, Result, Ok, Err, IfSome}
use Rattle.std.specs.Bool.{OnFalse, OnTrue}
use Rattle.std.specs.Io.KnownBytes.{Appends}
use Rattle.xm_config.specs.Day.{Day, day}
use Rattle.xm_replay.specs.Taken.{IsOpenFault, IsOrdersFault}
use Rattle.xm_config.specs.Opening.{segment_fault}
use Rattle.xm_files.specs.FileFaults.{is_from_outside}
use Rattle.xm_files.specs.Names.{NameLists}
use Rattle.xm_files.specs.OrderFiles.{AreBytesOf, orders_of_files, text_in_files}
use Rattle.xm_files.specs.Segment.{segment_of}
use Rattle.xm_texts.specs.Statement.{statement}
use Rattle.xm_config.specs.declared.config.SegmentConfig.{SegmentConfig}
use Rattle.xm_replay.specs.declared.report.DayReport.{DayReport}
use Rattle.xm_replay.specs.declared.faults.DayFault.{DayFault}
use Rattle.xm_replay.specs.declared.faults.DayFault.TheVariants.{Segment, Carry, Orders, Open, OutOfMemory, WriteFailed}
use Rattle.xm_files.specs.declared.file_faults.FileFault.{FileFault}
use Rattle.xm_config.specs.declared.rows.Row.{Row}
use Rattle.xm_ticks.specs.Writing.{AppendsPrefix}

-- the settings and the names are those of the segment file
abbrev pub IsSegmentOf : Option (List ℕ) → SegmentConfig → NameLists → Type 0
IsSegmentOf file config names = IfSome file (λ bytes. segment_of bytes ≡ Ok (config, names))

-- the rows are those of the order files, one after another
abbrev pub AreRowsOf : List (Option (List ℕ)) → SegmentConfig → NameLists → List Row → Type 0
AreRowsOf orders config names rows = (files : List (List ℕ)) × AreBytesOf orders files × (orders_of_files names config files ≡ Ok rows)

-- the fault is the one that the bytes have, or the reader or the memory failed, which has no line
pub record IsFileFault {A : Type 0} (reads : List ℕ → Result A FileFault) (file : Option (List ℕ)) (fault : FileFault) : Type 0 where
  pub of_bytes : OnFalse (is_from_outside fault.cause) (IfSome file (λ bytes. reads bytes ≡ Err fault))
  pub from_outside : OnTrue (is_from_outside fault.cause) (fault.line ≡ 0)

abbrev pub statement_of : NameLists → Day → List ℕ
statement_of names d = statement names d.states d.accepted d.refused

-- taken in the order of the file, rows have one day
abbrev pub InFileOrder : SegmentConfig → List Row → Day → Type 0
InFileOrder config rows d = d ≡ day config rows

-- what was written is the statement of a day that these rows may have, and nothing else; the report has the day's counts
pub record WritesDay (days : Day → Type 0) (names : NameLists) (report : DayReport) (old new : Option (List ℕ)) : Type 0 where
  pub day : Day
  pub is_of_rows : days day
  pub written : Appends old new (statement_of names day)
  pub accepted : report.accepted ≡ day.accepted
  pub refused : report.refused ≡ day.refused

-- a part of such a statement was written, but not all of it
pub record WritesPart (days : Day → Type 0) (names : NameLists) (old new : Option (List ℕ)) : Type 0 where
  pub day : Day
  pub is_of_rows : days day
  pub written : AppendsPrefix old new (statement_of names day)

-- what has taken the rows of the order files, whose records have the texts of these files, or their first fault
abbrev pub OrdersRun : {A : Type 0} → ((ℕ → List ℕ) → SegmentConfig → List Row → Result A DayFault → Type 0) → SegmentConfig → NameLists → List (Option (List ℕ)) → Result A DayFault → Type 0
OrdersRun taken config names orders (Err (Orders fault)) = IsOrdersFault names config orders fault
OrdersRun taken config names orders result =
    (files : List (List ℕ)) × AreBytesOf orders files × (rows : List Row) × (orders_of_files names config files ≡ Ok rows) × taken (text_in_files files) config rows result

-- how the statement of one of these days is written
abbrev pub StatementEnds : Option (List ℕ) → Option (List ℕ) → NameLists → (Day → Type 0) → Result DayReport DayFault → Type 0
StatementEnds old new names days (Ok report) = WritesDay days names report old new
StatementEnds old new names days (Err fault) = WritesPart days names old new

-- how the rows of order files are run that have no fault, where they may have these days, and what is written of a day
abbrev pub RowsEnd : (NameLists → (Day → Type 0) → Result DayReport DayFault → Type 0) → (SegmentConfig → List Row → Day → Type 0) → SegmentConfig → NameLists → List Row → Result DayReport DayFault → Type 0
RowsEnd Written days config names rows (Ok report) = (segment_fault config ≡ None) × Written names (days config rows) (Ok report)
RowsEnd Written days config names rows (Err (Open fault)) = IsOpenFault config fault
RowsEnd Written days config names rows (Err (OutOfMemory _)) = segment_fault config ≡ None
RowsEnd Written days config names rows (Err WriteFailed) = (segment_fault config ≡ None) × Written names (days config rows) (Err WriteFailed)
RowsEnd Written days config names rows (Err (Segment fault)) = ⊥
RowsEnd Written days config names rows (Err (Carry fault)) = ⊥
RowsEnd Written days config names rows (Err (Orders fault)) = ⊥

-- how the day of a segment ends whose rows are those of order files
abbrev pub DayOfRowsEnds : (NameLists → (Day → Type 0) → Result DayReport DayFault → Type 0) → (SegmentConfig → List Row → Day → Type 0) → SegmentConfig → NameLists → List (Option (List ℕ)) → Result DayReport DayFault → Type 0
DayOfRowsEnds Written days config names orders (Err (Orders fault)) = IsOrdersFault names config orders fault
DayOfRowsEnds Written days config names orders result = (rows : List Row) × AreRowsOf orders config names rows × RowsEnd Written days config names rows result

-- how the day of a segment file ends that has no fault
abbrev pub OrdersEnd : (SegmentConfig → List Row → Day → Type 0) → SegmentConfig → NameLists → List (Option (List ℕ)) → Option (List ℕ) → Option (List ℕ) → Result DayReport DayFault → Type 0
OrdersEnd days config names orders old new result = DayOfRowsEnds (StatementEnds old new) days config names orders result

-- how the day of a segment file and its order files ends
abbrev pub DayEnds : (SegmentConfig → List Row → Day → Type 0) → Option (List ℕ) → List (Option (List ℕ)) → Option (List ℕ) → Option (List ℕ) → Result DayReport DayFault → Type 0
DayEnds days segment orders old new (Err (Segment fault)) = IsFileFault segment_of segment fault
DayEnds days segment orders old new result =
    (config : SegmentConfig) × (names : NameLists) × IsSegmentOf segment config names × OrdersEnd days config names orders old new result

-- a statement isn't written for want of memory, or because the writer failed
abbrev pub IsOfWriting : DayFault → Type 0
IsOfWriting (OutOfMemory _) = Unit {0}
IsOfWriting WriteFailed = Unit {0}
IsOfWriting _ = ⊥
