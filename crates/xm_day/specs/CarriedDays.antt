-- How a day ends that opens with what earlier days left and hands on what it leaves: what it answers, and what both outputs hold
-- before and after. The bytes of a file may be unknown.
use Rattle.std.specs.Prelude.{◌≡◌, ◌⊎◌, ℕ, List, Option, Result, Ok, Err, IfSome}
use Rattle.std.specs.Io.KnownBytes.{Appends}
use Rattle.xm_day.specs.Answers.{DayOfRowsEnds, IsFileFault, IsSegmentOf, statement_of}
use Rattle.xm_texts.specs.Carry.{carry_text}
use Rattle.xm_config.specs.Day.{Day}
use Rattle.xm_replay.specs.declared.faults.DayFault.{DayFault}
use Rattle.xm_replay.specs.declared.faults.DayFault.TheVariants.{Segment, Carry}
use Rattle.xm_replay.specs.declared.report.DayReport.{DayReport}
use Rattle.xm_files.specs.Carry.{carry_of}
use Rattle.xm_files.specs.Names.{NameLists}
use Rattle.xm_files.specs.Segment.{segment_of}
use Rattle.xm_files.specs.declared.file_faults.FileFault.{FileFault}
use Rattle.xm_config.specs.declared.config.SegmentConfig.{SegmentConfig}
use Rattle.xm_config.specs.declared.rows.Row.{Row}
use Rattle.xm_ticks.specs.Writing.{AppendsPrefix}

-- what the output of the statement and that of the carry file hold, before and after
pub record Outputs : Type 0 where
  pub old : Option (List ℕ)
  pub new : Option (List ℕ)
  pub kept_old : Option (List ℕ)
  pub kept_new : Option (List ℕ)

-- the statement went out in part, and nothing of the carry text; or all of it, and the carry text in part
abbrev pub IsCutOff : Outputs → List ℕ → List ℕ → Type 0
IsCutOff out statement carry =
    (AppendsPrefix out.old out.new statement × (out.kept_new ≡ out.kept_old)) ⊎ (Appends out.old out.new statement × AppendsPrefix out.kept_old out.kept_new carry)

-- the carry text of a day
abbrev pub carry_text_of : NameLists → Day → List ℕ
carry_text_of names d = carry_text names d.states

-- what was written is the statement of a day that these rows may have, and what was kept is its carry text; the report has the
-- day's counts
pub record WritesBoth (out : Outputs) (names : NameLists) (days : Day → Type 0) (report : DayReport) : Type 0 where
  pub day : Day
  pub is_of_rows : days day
  pub written : Appends out.old out.new (statement_of names day)
  pub kept : Appends out.kept_old out.kept_new (carry_text_of names day)
  pub accepted : report.accepted ≡ day.accepted
  pub refused : report.refused ≡ day.refused

-- not all of both was written
pub record WritesLess (out : Outputs) (names : NameLists) (days : Day → Type 0) : Type 0 where
  pub day : Day
  pub is_of_rows : days day
  pub cut_off : IsCutOff out (statement_of names day) (carry_text_of names day)

-- how both texts of one of these days are written
abbrev pub BothEnd : Outputs → NameLists → (Day → Type 0) → Result DayReport DayFault → Type 0
BothEnd out names days (Ok report) = WritesBoth out names days report
BothEnd out names days (Err fault) = WritesLess out names days

-- a segment opens with the settings and the names of its file, and with what the carry file lists for each security
pub record OpensWith (segment carry : Option (List ℕ)) (opened : SegmentConfig) (names : NameLists) : Type 0 where
  pub config : SegmentConfig
  pub is_segment : IsSegmentOf segment config names
  pub is_carried : IfSome carry (λ bytes. carry_of names config bytes ≡ Ok opened)

-- the fault is that of the carry file of a segment whose own file has none
pub record IsCarryFault (segment carry : Option (List ℕ)) (fault : FileFault) : Type 0 where
  pub config : SegmentConfig
  pub names : NameLists
  pub is_segment : IsSegmentOf segment config names
  pub is_fault : IsFileFault (carry_of names config) carry fault

-- how the day of a segment file, a carry file and its order files ends
abbrev pub CarriedDayEnds : (SegmentConfig → List Row → Day → Type 0) → Option (List ℕ) → Option (List ℕ) → List (Option (List ℕ)) → Outputs → Result DayReport DayFault → Type 0
CarriedDayEnds days segment carry orders out (Err (Segment fault)) = IsFileFault segment_of segment fault
CarriedDayEnds days segment carry orders out (Err (Carry fault)) = IsCarryFault segment carry fault
CarriedDayEnds days segment carry orders out result =
    (opened : SegmentConfig) × (names : NameLists) × OpensWith segment carry opened names × DayOfRowsEnds (BothEnd out) days opened names orders result
