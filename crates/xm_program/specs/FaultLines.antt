-- The line that tells why a day has no statement.
use Rattle.std.specs.Prelude.{ℕ, ◌==◌, if◌then◌else◌, List, ◌++◌, codes}
use Rattle.std.specs.Fmt.{decimal}
use Rattle.xm_config.specs.declared.opening.OpenFault.{OpenFault}
use Rattle.xm_config.specs.declared.opening.OpenFault.TheVariants as opening
use Rattle.xm_files.specs.declared.file_faults.FileCause.{FileCause}
use Rattle.xm_files.specs.declared.file_faults.FileCause.TheVariants as file
use Rattle.xm_files.specs.declared.file_faults.FileFault.{FileFault}
use Rattle.xm_replay.specs.declared.faults.DayFault.{DayFault}
use Rattle.xm_replay.specs.declared.faults.DayFault.TheVariants as day

-- a file's fault, by its name
abbrev pub cause_name : FileCause → List ℕ
cause_name file.ReadFailed = codes "ReadFailed"
cause_name file.TooLong = codes "TooLong"
cause_name file.Syntax = codes "Syntax"
cause_name file.MissingKey = codes "MissingKey"
cause_name file.UnknownKey = codes "UnknownKey"
cause_name file.BadValue = codes "BadValue"
cause_name file.DuplicateName = codes "DuplicateName"
cause_name file.BadHeader = codes "BadHeader"
cause_name file.BadField = codes "BadField"
cause_name file.TooManyRows = codes "TooManyRows"
cause_name (file.OutOfMemory _) = codes "OutOfMemory"

-- why a segment is not opened, by its name
abbrev pub open_name : OpenFault → List ℕ
open_name opening.NoSecurity = codes "NoSecurity"
open_name opening.TooMany = codes "TooMany"
open_name opening.BadWidths = codes "BadWidths"
open_name opening.BadCarried = codes "BadCarried"
open_name (opening.OutOfMemory _) = codes "OutOfMemory"

-- a fault of a file: the file, the line and the cause
abbrev pub file_line : List ℕ → FileFault → List ℕ
file_line file fault = file ++ codes ": line " ++ decimal fault.line ++ codes ": " ++ cause_name fault.cause

-- the order file with this number among those of a day: the first has none
abbrev pub orders_name : ℕ → List ℕ
orders_name number = if number == 1 then codes "orders" else codes "orders " ++ decimal number

-- what is said of a fault
abbrev pub fault_text : DayFault → List ℕ
fault_text (day.Segment fault) = file_line (codes "segment") fault
fault_text (day.Carry fault) = file_line (codes "carry") fault
fault_text (day.Orders fault) = file_line (orders_name fault.file) fault.fault
fault_text (day.Open fault) = codes "open: " ++ open_name fault
fault_text (day.OutOfMemory _) = codes "out of memory"
fault_text day.WriteFailed = codes "write failed"

-- the line of a fault, with its line feed
abbrev pub fault_line : DayFault → List ℕ
fault_line fault = codes "xetra-day: " ++ fault_text fault ++ codes "\n"
