-- What an order file gives: its rows, or its first fault.
use Rattle.std.specs.Prelude.{◌≡◌, ℕ, ◌+◌, true, not, if◌then◌else◌, nat_lt, ◌==◌, List, [], ◌∷◌, ◌++◌, length, map, Option, Some, None, option_map, Result, Ok, Err}
use Rattle.csv.specs.Reading.{default_config, records, strip_bom}
use Rattle.xm_files.specs.FileFaults.{fault_at, later_fault, max_bytes, result_then}
use Rattle.xm_files.specs.Names.{NameLists}
use Rattle.xm_files.specs.Rows.{columns_of, is_header, rows_of_entry, rows_of_record}
use Rattle.xm_files.specs.declared.entries.RecordEntry.{RecordEntry}
use Rattle.xm_files.specs.declared.order_format.OrderFormat.{OrderFormat}
use Rattle.xm_files.specs.declared.order_format.OrderFormat.TheVariants.{First, Second}
use Rattle.xm_config.specs.declared.config.SegmentConfig.{SegmentConfig}
use Rattle.xm_files.specs.declared.file_faults.FileCause.TheVariants.{TooLong, Syntax, BadHeader, BadField, TooManyRows}
use Rattle.xm_files.specs.declared.file_faults.FileFault.{FileFault}
use Rattle.xm_config.specs.declared.rows.Row.{Row}

-- the most rows that an order file may stand for
abbrev pub max_rows : ℕ
max_rows = 1000000

-- the most records that an order file without a fault has: its header takes eleven bytes at least for its twelve fields, and each other
-- record one
abbrev pub max_records : ℕ
max_records = 16777206

-- the most records that may come before an order file: those of 255 files without a fault
abbrev pub max_before : ℕ
max_before = 4278187530

-- no record of an order file that is read has a higher number: so many records come before its header at most, and each of its own has
-- a byte at least
abbrev pub max_lines : ℕ
max_lines = 4294964748

-- the records of a text: CSV with the usual marks, a byte order mark before it dropped
abbrev pub records_in : List ℕ → List (List (List ℕ))
records_in text = records default_config (strip_bom text)

-- these rows and those of one more record, which has this number
abbrev pub with_rows : ℕ → List Row → Option (List Row) → Result (List Row) FileFault
with_rows line rows None = Err (fault_at line BadField)
with_rows line rows (Some more) = if nat_lt max_rows (length rows + length more) then Err (fault_at line TooManyRows) else Ok (rows ++ more)

-- these rows and those of an entry that stands in this line, if it is lawful, in a segment of so many securities
abbrev pub with_entry_rows : ℕ → ℕ → List Row → Option RecordEntry → Result (List Row) FileFault
with_entry_rows line count rows entry = with_rows line rows (option_map (rows_of_entry line count) entry)

-- the format that has this header
abbrev pub format_of : List (List ℕ) → Option OrderFormat
format_of fields = if is_header First fields then Some First else (if is_header Second fields then Some Second else None)

-- the records of a file begin with the header of this format, and these come behind it
pub record IsUnder (file : List (List (List ℕ))) (format : OrderFormat) (more : List (List (List ℕ))) : Type 0 where
  pub header : List (List ℕ)
  pub is : is_header format header ≡ true
  pub first : file ≡ header ∷ more

-- the records of an order file begin with the header of a format, and these come behind it
pub record IsHeaded (file : List (List (List ℕ))) (format : OrderFormat) (more : List (List (List ℕ))) : Type 0 where
  pub header : List (List ℕ)
  pub says : format_of header ≡ Some format
  pub first : file ≡ header ∷ more

-- the rows that a record of a format adds to these by its fields, which are as many as the format has columns
abbrev pub with_record : NameLists → SegmentConfig → OrderFormat → ℕ → List Row → List (List ℕ) → Result (List Row) FileFault
with_record names config format line rows fields =
    if not (length fields == length (columns_of format)) then Err (fault_at line Syntax) else with_rows line rows (rows_of_record format names config line fields)

-- these rows and those of the records of a format, of which the first has this number, or the first fault
abbrev pub rows_after : NameLists → SegmentConfig → OrderFormat → ℕ → List Row → List (List (List ℕ)) → Result (List Row) FileFault
rows_after names config format line rows [] = Ok rows
rows_after names config format line rows (fields ∷ more) =
    result_then (with_record names config format line rows fields) (λ sum. rows_after names config format (line + 1) sum more)

-- the same of the records behind the header with this number, which says their format
abbrev pub rows_under : NameLists → SegmentConfig → ℕ → Option OrderFormat → List Row → List (List (List ℕ)) → Result (List Row) FileFault
rows_under names config first None rows records = Err (fault_at first BadHeader)
rows_under names config first (Some format) rows records = rows_after names config format (first + 1) rows records

-- the same of all records of a file, of which the first is the header, with this number
abbrev pub rows_of_records : NameLists → SegmentConfig → ℕ → List Row → List (List (List ℕ)) → Result (List Row) FileFault
rows_of_records names config first rows [] = Err (fault_at first BadHeader)
rows_of_records names config first rows (header ∷ records) = rows_under names config first (format_of header) rows records

-- whatever the names and the settings, a file with these records, whose header has this number, has this fault
abbrev pub NoHeader : ℕ → List (List (List ℕ)) → FileFault → Type 0
NoHeader first file fault = (names : NameLists) (config : SegmentConfig) (rows : List Row) → rows_of_records names config first rows file ≡ Err fault

-- the rows of the records that are left of a file, of which the first has this number; their format isn't known where that is the header
abbrev pub rows_behind : NameLists → SegmentConfig → Option OrderFormat → ℕ → List Row → List (List (List ℕ)) → Result (List Row) FileFault
rows_behind names config None line rows records = rows_of_records names config line rows records
rows_behind names config (Some format) line rows records = rows_after names config format line rows records

-- what the bytes of an order file give whose header has this number: its rows, or its first fault, with the numbers that count on from it
abbrev pub orders_from : NameLists → SegmentConfig → ℕ → List ℕ → Result (List Row) FileFault
orders_from names config first bytes =
    if nat_lt max_bytes (length bytes) then Err (fault_at 0 TooLong) else rows_of_records names config first [] (records_in bytes)

-- what the bytes of an order file give that is the only one, or the first: its header has the number 1
abbrev pub orders_of : NameLists → SegmentConfig → List ℕ → Result (List Row) FileFault
orders_of names config bytes = orders_from names config 1 bytes

-- a row of a file that so many records come before: the number of its record counts on
abbrev pub later_row : ℕ → Row → Row
later_row before row = record row { line = before + row.line }

-- what a file gives that so many records come before, by what it gives alone: the same rows, or the same fault, whose numbers count on
abbrev pub later_orders : ℕ → Result (List Row) FileFault → Result (List Row) FileFault
later_orders before (Ok rows) = Ok (map (later_row before) rows)
later_orders before (Err fault) = Err (later_fault before fault)
