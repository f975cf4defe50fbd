-- The rows of an order file that are read a batch at a time, as a clause sees them.
use Rattle.std.specs.Prelude.{ℕ, List, [], ◌++◌, Option, Result}
use Rattle.xm_files.specs.Names.{NameLists}
use Rattle.xm_files.specs.Orders.{records_in, rows_behind}
use Rattle.xm_files.specs.declared.batch.Earlier.{Earlier, Earlier-F, fold-Earlier}
use Rattle.xm_files.specs.declared.batch.Earlier.TheOpen.{Nothing, Batch}
use Rattle.xm_files.specs.declared.file_faults.FileFault.{FileFault}
use Rattle.xm_files.specs.declared.order_format.OrderFormat.{OrderFormat}
use Rattle.xm_config.specs.declared.config.SegmentConfig.{SegmentConfig}
use Rattle.xm_config.specs.declared.rows.Row.{Row}

-- the rows of a batch, and those of the batches before it
pub record RowsRead : Type 0 where
  pub earlier : List Row
  pub rows : List Row

abbrev pub rows_so_far : RowsRead → List Row
rows_so_far r = r.earlier ++ r.rows

abbrev pub rows_after_batch : Earlier-F (List Row) → List Row
rows_after_batch Nothing = []
rows_after_batch (Batch rows earlier) = earlier.value ++ rows.value.items

unfoldable pub earlier_rows : Earlier → List Row
earlier_rows earlier = fold-Earlier (List Row) rows_after_batch earlier

-- what isn't read yet of an order file: its records, the number of the first, and the file's format, which is known once its header is
-- read, the first record
pub record RowsLeft : Type 0 where
  pub format : Option OrderFormat
  pub records : List (List (List ℕ))
  pub line : ℕ

-- a text of which nothing is read yet, the format of its records, where it is known, and the number of the first
abbrev pub text_left : List ℕ → Option OrderFormat → ℕ → RowsLeft
text_left text format line = record { format = format; records = records_in text; line = line }

-- what an order file gives of which these rows were read: behind its header, and where that isn't read yet
abbrev pub rows_from : NameLists → SegmentConfig → RowsLeft → List Row → Result (List Row) FileFault
rows_from names config file rows = rows_behind names config file.format file.line rows file.records
