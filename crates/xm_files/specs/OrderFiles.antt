-- What the order files of a day give, one after another: their rows, or the first fault.
use Rattle.std.specs.Prelude.{◌≡◌, ℕ, ◌+◌, ◌-◌, ◌*◌, ◌<◌, ◌≤◌, if◌then◌else◌, nat_le, List, [], ◌∷◌, ◌++◌, length, map, take, Option, IfSome, Result, Ok, Err}
use Rattle.std.specs.Bool.{OnFalse, OnTrue}
use Rattle.std.specs.List.{All, AllZip}
use Rattle.xm_files.specs.FileFaults.{is_from_outside, max_bytes}
use Rattle.xm_files.specs.Names.{NameLists}
use Rattle.xm_files.specs.Orders.{later_row, max_records, max_rows, orders_of, records_in}
use Rattle.xm_files.specs.RecordTexts.{text_of_record}
use Rattle.xm_files.specs.declared.file_faults.FileFault.{FileFault}
use Rattle.xm_files.specs.declared.file_faults.OrdersFault.{OrdersFault}
use Rattle.xm_config.specs.declared.config.SegmentConfig.{SegmentConfig}
use Rattle.xm_config.specs.declared.rows.Row.{Row}

-- the next step after an order file that may have a fault, which has this number among those of a day, the first being 1
abbrev pub after_file : ℕ → Result (List Row) FileFault → (List Row → Result (List Row) OrdersFault) → Result (List Row) OrdersFault
after_file number (Err fault) next = Err (record { file = number; fault = fault })
after_file number (Ok own) next = next own

-- these rows and those of more order files, one after another: the first has this number, and so many records come before it. Or the first
-- fault
abbrev pub rows_with_files : NameLists → SegmentConfig → ℕ → ℕ → List Row → List (List ℕ) → Result (List Row) OrdersFault
rows_with_files names config number before rows [] = Ok rows
rows_with_files names config number before rows (bytes ∷ more) =
    after_file number (orders_of names config bytes) (λ own. rows_with_files names config (number + 1) (before + length (records_in bytes)) (rows ++ map (later_row before) own) more)

-- what the bytes of a day's order files give: the rows of each, one after the other, or the first fault
abbrev pub orders_of_files : NameLists → SegmentConfig → List (List ℕ) → Result (List Row) OrdersFault
orders_of_files names config files = rows_with_files names config 1 0 [] files

-- a row of a file that is cut in two behind the record with this number, where the second part has the header again: behind the cut it
-- stands one line later
abbrev pub behind_cut : ℕ → Row → Row
behind_cut last row = if nat_le row.line last then row else later_row 1 row

-- how many records the order files of a day have together
abbrev pub records_of_files : List (List ℕ) → ℕ
records_of_files [] = 0
records_of_files (bytes ∷ more) = length (records_in bytes) + records_of_files more

-- the free text of the record with this number among those of a day's order files
abbrev pub text_in_files : List (List ℕ) → ℕ → List ℕ
text_in_files [] line = []
text_in_files (bytes ∷ more) line = let count = length (records_in bytes) in if nat_le line count then text_of_record bytes line else text_in_files more (line - count)

-- files of these bytes are what readers give, of each of which the bytes are told where they are known
abbrev pub AreBytesOf : List (Option (List ℕ)) → List (List ℕ) → Type 0
AreBytesOf known files = AllZip (λ told bytes. IfSome told (λ all. bytes ≡ all)) known files

-- readers of which these bytes are known gave a day's first files, one of which has this fault: so whatever files come behind it, the day
-- has it
abbrev pub HaveFault : NameLists → SegmentConfig → List (Option (List ℕ)) → OrdersFault → Type 0
HaveFault names config known fault =
    (files : List (List ℕ)) × AreBytesOf (take (length files) known) files × ((more : List (List ℕ)) → orders_of_files names config (files ++ more) ≡ Err fault)

-- the order files of a day before the one with this number have no fault, and what is known of the bytes that readers give is true of
-- them; that one is among those of the day
abbrev pub HaveNoneBefore : NameLists → SegmentConfig → List (Option (List ℕ)) → ℕ → Type 0
HaveNoneBefore names config known number =
    (files : List (List ℕ)) × AreBytesOf (take (length files) known) files × (rows : List Row) × (orders_of_files names config files ≡ Ok rows) × (number ≡ length files + 1) × (number ≤ length known)

-- a row stands behind the header with this number, and before the record with that one
abbrev pub StandsIn : ℕ → ℕ → Row → Type 0
StandsIn first next row = (first < row.line) × (row.line < next)

-- the order files of a day that are read one after another: of those that aren't read yet the bytes, where they are known; how many were
-- read; and the number that the next header has, one more than all records of those
pub record FilesLeft : Type 0 where
  pub left : List (Option (List ℕ))
  pub number : ℕ
  pub first : ℕ

-- the bytes of an order file, and the number of its header
pub record FileRead : Type 0 where
  pub bytes : List ℕ
  pub first : ℕ

-- the next order file was read, which is this one
pub record ReadsFile (old new : FilesLeft) (file : FileRead) : Type 0 where
  pub told : Option (List ℕ)
  pub left : old.left ≡ told ∷ new.left
  pub bytes : IfSome told (λ all. file.bytes ≡ all)
  pub short : length file.bytes ≤ max_bytes
  pub first : file.first ≡ old.first
  pub same_first : new.first ≡ old.first
  pub number : new.number ≡ old.number + 1

-- an order file of which these bytes are known has this fault, whatever the names and the settings
abbrev pub HasFault : Option (List ℕ) → FileFault → Type 0
HasFault told fault = (bytes : List ℕ) × IfSome told (λ all. bytes ≡ all) × ((names : NameLists) (config : SegmentConfig) → orders_of names config bytes ≡ Err fault)

-- the next order file can't be read, and has this fault
pub record FailsFile (old : FilesLeft) (fault : OrdersFault) : Type 0 where
  pub told : Option (List ℕ)
  pub more : List (Option (List ℕ))
  pub left : old.left ≡ told ∷ more
  pub number : fault.file ≡ old.number + 1
  pub own : OnFalse (is_from_outside fault.fault.cause) (HasFault told fault.fault)
  pub outside : OnTrue (is_from_outside fault.fault.cause) (fault.fault.line ≡ 0)

-- these are the first of a day's order files, have no fault, and give these rows; all others are left. Of all readers of the day these bytes are
-- known. Whatever files come behind, the day goes on with these rows
pub record FilesRead (names : NameLists) (config : SegmentConfig) (known : List (Option (List ℕ))) (f : FilesLeft) (files : List (List ℕ)) (rows : List Row) : Type 0 where
  pub told : List (Option (List ℕ))
  pub readers : known ≡ told ++ f.left
  pub bytes : AreBytesOf told files
  pub number : f.number ≡ length files
  pub first : f.first ≡ records_of_files files + 1
  pub few : f.first ≤ f.number * max_records + 1
  pub few_rows : length rows ≤ f.number * max_rows
  pub lines : All (StandsIn 0 f.first) rows
  pub so_far : (more : List (List ℕ)) → orders_of_files names config (files ++ more) ≡ rows_with_files names config (length files + 1) (records_of_files files) rows more
