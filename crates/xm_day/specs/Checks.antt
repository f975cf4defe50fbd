-- What the check of a segment file gives: its line, or its fault. The bytes of the file may be unknown.
use Rattle.std.specs.Prelude.{◌≡◌, ℕ, List, ◌++◌, codes, length, Option, None, Result, Ok, Err, Vec}
use Rattle.std.specs.Fmt.{decimal}
use Rattle.std.specs.Global.{Global}
use Rattle.xm_day.specs.Answers.{IsFileFault, IsSegmentOf}
use Rattle.xm_replay.specs.Taken.{IsOpenFault}
use Rattle.xm_replay.specs.declared.faults.DayFault.{DayFault}
use Rattle.xm_replay.specs.declared.faults.DayFault.TheVariants.{Segment, Open, OutOfMemory}
use Rattle.xm_files.specs.Names.{NameLists}
use Rattle.xm_files.specs.Segment.{segment_of}
use Rattle.xm_config.specs.Opening.{segment_fault}
use Rattle.xm_config.specs.declared.config.SegmentConfig.{SegmentConfig}

-- the line of a segment that opens: how many securities and how many members it has
abbrev pub check_line : SegmentConfig → List ℕ
check_line config = codes "OK " ++ decimal (length config.securities) ++ codes " securities " ++ decimal config.members ++ codes " members\n"

-- what the check of a segment gives whose file has no fault: its line, if it opens
abbrev pub OpensTo : SegmentConfig → Result (Vec ℕ Global) DayFault → Type 0
OpensTo config (Ok line) = (segment_fault config ≡ None) × (line.items ≡ check_line config)
OpensTo config (Err (Open fault)) = IsOpenFault config fault
OpensTo config (Err (OutOfMemory _)) = segment_fault config ≡ None
OpensTo config (Err fault) = ⊥

-- what the check of a segment file gives
abbrev pub IsCheck : Option (List ℕ) → Result (Vec ℕ Global) DayFault → Type 0
IsCheck segment (Err (Segment fault)) = IsFileFault segment_of segment fault
IsCheck segment result = (config : SegmentConfig) × (names : NameLists) × IsSegmentOf segment config names × OpensTo config result
