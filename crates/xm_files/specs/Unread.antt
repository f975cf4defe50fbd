-- The records of a text that CSV has yet to read.
use Rattle.std.specs.Prelude.{◌≡◌, ℕ, ◌+◌, ◌-◌, ◌≤◌, false, List, [], ◌∷◌, drop, length, Option, Some, None}
use Rattle.std.specs.Option.{option_map_or}
use Rattle.std.specs.Borrow.{Bor}
use Rattle.csv.specs.Machine.{ends_at_end}
use Rattle.csv.specs.Reading.{Ready, default_config, reader_config, reader_state, reader_trim, records_from, source_of}
use Rattle.csv.specs.Records.{fields_of}
use Rattle.csv.specs.declared.reader.Reader.{Reader}
use Rattle.csv.specs.declared.reader.Trim.TheVariants as trim
use Rattle.csv.specs.declared.record.ByteRecord.{ByteRecord}
use Rattle.xm_files.specs.Batches.{RowsLeft}
use Rattle.xm_files.specs.Orders.{records_in}
use Rattle.xm_files.specs.declared.csv_records.Lookahead.{Lookahead}
use Rattle.xm_files.specs.declared.csv_records.Lookahead.TheVariants.{Ahead, Ended, Failed}
use Rattle.xm_files.specs.declared.order_format.OrderFormat.{OrderFormat}

-- the record that waits, the records behind it, and the number of the first of all
pub record CsvLeft : Type 0 where
  pub ahead : Option (List (List ℕ))
  pub behind : List (List (List ℕ))
  pub line : ℕ

-- all records that are left
abbrev pub with_ahead : Option (List (List ℕ)) → List (List (List ℕ)) → List (List (List ℕ))
with_ahead None behind = behind
with_ahead (Some fields) behind = fields ∷ behind

abbrev pub known : Bor (List ℕ) → Option (List ℕ)
known s = Some s.now

-- the records of the bytes that a reader has left
unfoldable pub records_left : Reader (Bor (List ℕ)) → List (List (List ℕ))
records_left reader = option_map_or (λ left. records_from default_config (length left + 1) (reader_state reader) left) (source_of known reader) []

-- a reader that stands between two records, whose bytes left are known
pub record IsBetween (reader : Reader (Bor (List ℕ))) : Type 0 where
  pub trim : reader_trim reader ≡ trim.None
  pub ready : Ready reader
  pub config : reader_config reader ≡ default_config
  pub between : ends_at_end (reader_state reader) ≡ false
  pub left : List ℕ
  pub source : source_of known reader ≡ Some left

-- the record that waits
abbrev pub record_ahead : Lookahead → ByteRecord → Option (List (List ℕ))
record_ahead Ahead row = Some (fields_of row)
record_ahead _ row = None

-- those that aren't read
abbrev pub behind_of : Lookahead → Reader (Bor (List ℕ)) → List (List (List ℕ))
behind_of Ended reader = []
behind_of (Failed _) reader = []
behind_of _ reader = records_left reader

-- a reader that reads on stands between two records
abbrev pub ReadsOn : Lookahead → Reader (Bor (List ℕ)) → Type 0
ReadsOn Ended reader = Unit
ReadsOn (Failed _) reader = Unit
ReadsOn _ reader = IsBetween reader

-- what CSV has yet to read of a file, without the difference
abbrev pub csv_left : Option OrderFormat → CsvLeft → RowsLeft
csv_left format c = record { format = format; records = with_ahead c.ahead c.behind; line = c.line }

-- what CSV has yet to read, where it reads, and else what a text has
abbrev pub left_of_either : Option CsvLeft → RowsLeft → RowsLeft
left_of_either None text = text
left_of_either (Some c) text = csv_left text.format c

-- CSV has yet to read the records of a text, of which the first has this number, from some number on
pub record IsWithin (text : List ℕ) (first : ℕ) (c : CsvLeft) : Type 0 where
  pub begun : first ≤ c.line
  pub left : with_ahead c.ahead c.behind ≡ drop (c.line - first) (records_in text)
