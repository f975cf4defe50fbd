-- What is wrong with the files of a day as they were read: the fault by which a run of them ends, and, where there is none, its day.
use Rattle.std.specs.Prelude.{◌≡◌, ℕ, ◌+◌, List, [], ◌∷◌, map, length, Option, Some, None, option_map, Result, Ok, Err, Vec}
use Rattle.std.specs.Global.{Global}
use Rattle.xm_config.specs.Day.{day}
use Rattle.xm_config.specs.Opening.{segment_fault}
use Rattle.xm_config.specs.declared.config.SegmentConfig.{SegmentConfig}
use Rattle.xm_config.specs.declared.rows.Row.{Row}
use Rattle.xm_day.specs.Days.{completeness_of}
use Rattle.xm_day.specs.declared.value.Completeness.{Completeness}
use Rattle.xm_explanations.specs.Unsaid.{Unsaid, unsaid_of}
use Rattle.xm_explanations.specs.declared.explaining.Explanation.{Explanation}
use Rattle.xm_explanations.specs.declared.explaining.Explanation.TheVariants.{Mistaken, Faultless}
use Rattle.xm_explanations.specs.declared.mistaken.Found.{Found}
use Rattle.xm_explanations.specs.declared.mistaken.Found.TheVariants as found
use Rattle.xm_explanations.specs.declared.mistaken.MistakenFile.{MistakenFile}
use Rattle.xm_explanations.specs.declared.mistaken.Reading.{Reading}
use Rattle.xm_explanations.specs.declared.mistaken.Reading.TheVariants as reading
use Rattle.xm_explanations.specs.declared.read_files.ReadDay.{ReadDay}
use Rattle.xm_explanations.specs.declared.read_files.ReadFile.{ReadFile}
use Rattle.xm_explanations.specs.declared.running.UnsaidDay.{UnsaidDay}
use Rattle.xm_files.specs.Carry.{carry_of}
use Rattle.xm_files.specs.FileFaults.{cause_of, fault_at}
use Rattle.xm_files.specs.Names.{NameLists}
use Rattle.xm_files.specs.OrderFiles.{orders_of_files}
use Rattle.xm_files.specs.Orders.{orders_of}
use Rattle.xm_files.specs.Segment.{segment_of}
use Rattle.xm_files.specs.declared.bytes.ReadFault.{ReadFault}
use Rattle.xm_files.specs.declared.file_faults.FileFault.{FileFault}
use Rattle.xm_mistakes.specs.Mistakes.{fault_in, first_fault, first_open_fault}
use Rattle.xm_replay.specs.declared.faults.DayFault.{DayFault}
use Rattle.xm_replay.specs.declared.faults.DayFault.TheVariants.{Segment, Carry, Orders, Open}
use Rattle.xm_replay.specs.declared.report.DayReport.{DayReport}

-- ---- the fault of the run

abbrev pub bytes_read : Result (Vec ℕ Global) ReadFault → List ℕ
bytes_read (Ok bytes) = bytes.items
bytes_read (Err fault) = []

-- what a file gives as it was read: what its bytes give, or the fault that it wasn't
abbrev pub read_as : {A : Type 0} → (List ℕ → Result A FileFault) → Result (Vec ℕ Global) ReadFault → Result A FileFault
read_as reads (Ok bytes) = reads bytes.items
read_as reads (Err fault) = Err (fault_at 0 (cause_of fault))

-- the first of two faults, of which the second comes behind the first
abbrev pub after_first : {A : Type 0} → Option A → Option A → Option A
after_first (Some fault) later = Some fault
after_first None later = later

-- the fault of a day that the fault of one of its files is
abbrev pub fault_as : Reading → FileFault → DayFault
fault_as reading.Segment fault = Segment fault
fault_as reading.Carry fault = Carry fault
fault_as (reading.Orders number) fault = Orders (record { file = number; fault = fault })

-- that of the order file with this number
abbrev pub order_fault : NameLists → SegmentConfig → ℕ → ReadFile → Option DayFault
order_fault names config number file = option_map (fault_as (reading.Orders number)) (fault_in (read_as (orders_of names config) file.text))

-- the first fault of the order files of a day, of which the first has this number
abbrev pub orders_fault : NameLists → SegmentConfig → ℕ → List ReadFile → Option DayFault
orders_fault names config number [] = None
orders_fault names config number (file ∷ more) = after_first (order_fault names config number file) (orders_fault names config (number + 1) more)

-- that of the opening of a segment
abbrev pub fault_of_opening : SegmentConfig → Option DayFault
fault_of_opening config = option_map Open (segment_fault config)

-- that of the order files, and then of the opening
abbrev pub rows_fault : NameLists → List ReadFile → SegmentConfig → Option DayFault
rows_fault names orders config = after_first (orders_fault names config 1 orders) (fault_of_opening config)

-- that of a file, or else of what comes behind it, by what the file gives
abbrev pub fault_then : {A : Type 0} → (FileFault → DayFault) → Result A FileFault → (A → Option DayFault) → Option DayFault
fault_then kind (Err fault) next = Some (kind fault)
fault_then kind (Ok read) next = next read

-- the settings with what a carry file lists, if there is one
abbrev pub settings_with : NameLists → SegmentConfig → Option ReadFile → Result SegmentConfig FileFault
settings_with names config None = Ok config
settings_with names config (Some file) = read_as (carry_of names config) file.text

-- the fault by which the run of these files ends, if it has one: that of the segment file, or else of the carry file, of the order files, one
-- after the other, or of the opening
abbrev pub run_fault : ReadDay → Option DayFault
run_fault d = fault_then Segment (read_as segment_of d.segment.text) (λ read. fault_then Carry (settings_with read.1 read.0 d.carried) (rows_fault read.1 d.orders.items))

-- ---- the mistakes that are told

-- the fault of the run that the first of a file's mistakes is
abbrev pub found_fault : Found → Option DayFault
found_fault (found.Read reading mistakes) = option_map (fault_as reading) (first_fault mistakes.items)
found_fault (found.Opening mistakes) = option_map Open (first_open_fault mistakes.items)

-- that of the first mistake of all these files
abbrev pub first_told : List MistakenFile → Option DayFault
first_told [] = None
first_told (file ∷ more) = after_first (found_fault file.found) (first_told more)

-- the segment is opened by what its file gives, and no mistake is told; or its fault is
abbrev pub IsOpening : Result (SegmentConfig × NameLists) FileFault → Option DayFault → Option (SegmentConfig × NameLists) → Type 0
IsOpening (Ok read) told opened = (told ≡ None) × (opened ≡ Some read)
IsOpening (Err fault) told opened = (told ≡ Some (Segment fault)) × (opened ≡ None)

-- the settings are those with what the carry file lists, and no mistake is told; or its fault is
abbrev pub IsCarriedBy : Result SegmentConfig FileFault → Option DayFault → SegmentConfig → Type 0
IsCarriedBy (Ok config) told opened = (told ≡ None) × (opened ≡ config)
IsCarriedBy (Err fault) told opened = told ≡ Some (Carry fault)

-- ---- where there is none

-- the rows of these order files have a day, which has these counts and is so complete, and this is unsaid of it
pub record SeesRows (names : NameLists) (config : SegmentConfig) (files : List (List ℕ)) (report : DayReport) (completeness : Completeness) (seen : Unsaid) : Type 0 where
  pub rows : List Row
  pub rows_are : orders_of_files names config files ≡ Ok rows
  pub accepted : report.accepted ≡ (day config rows).accepted
  pub refused : report.refused ≡ (day config rows).refused
  pub completeness_is : completeness ≡ completeness_of (day config rows)
  pub unsaid_is : seen ≡ unsaid_of config rows

-- what is unsaid is that of it, with a place for each refusal
pub record LeavesUnsaid (names : NameLists) (config : SegmentConfig) (files : List (List ℕ)) (u : UnsaidDay) : Type 0 where
  pub names_are : u.names ≡ names
  pub sees : SeesRows names config files u.report u.completeness (record { refused = u.refused.items; standing = u.standing.items })
  pub each : length u.places.items ≡ length u.refused.items

-- the segment opens with the settings and the names of its file, and with what the carry file lists, if there is one
pub record IsUnsaid (d : ReadDay) (u : UnsaidDay) : Type 0 where
  pub config : SegmentConfig
  pub names : NameLists
  pub opened : SegmentConfig
  pub is_segment : read_as segment_of d.segment.text ≡ Ok (config, names)
  pub is_carried : settings_with names config d.carried ≡ Ok opened
  pub is_unsaid : LeavesUnsaid names opened (map (λ (file : ReadFile). bytes_read file.text) d.orders.items) u

-- the mistakes begin with the fault of the run, which has one; or it has none
abbrev pub IsExplained : ReadDay → Explanation → Type 0
IsExplained d (Mistaken told) = (first_told told.items ≡ run_fault d) × ((fault : DayFault) × (run_fault d ≡ Some fault))
IsExplained d (Faultless u) = (run_fault d ≡ None) × IsUnsaid d u
