-- What the parts of an order file give that are read side by side.
use Rattle.std.specs.Prelude.{◌≡◌, ℕ, ◌+◌, ◌-◌, ◌<◌, ◌≤◌, List, ◌++◌, Some, true, drop, length}
use Rattle.xm_files.specs.Batches.{rows_from, text_left}
use Rattle.xm_files.specs.Names.{NameLists}
use Rattle.xm_files.specs.Orders.{max_lines, max_rows, records_in}
use Rattle.xm_files.specs.declared.file_parts.FilePart.{FilePart}
use Rattle.xm_files.specs.declared.order_format.OrderFormat.{OrderFormat}
use Rattle.xm_config.specs.declared.config.SegmentConfig.{SegmentConfig}
use Rattle.xm_config.specs.declared.rows.Row.{Row}

-- the last bytes of a text, so many
abbrev pub last_bytes : ℕ → List ℕ → List ℕ
last_bytes count text = drop (length text - count) text

-- whichever rows come before them, as long as a file may stand for so many: the records of a text, of which the first has this number, begin with
-- those of these rows, and go on as those of another text
pub record LinesGive (names : NameLists) (config : SegmentConfig) (format : OrderFormat) (text : List ℕ) (line : ℕ) (left : List ℕ) (next : ℕ) (rows : List Row) : Type 0 where
  pub so : (before : List Row) → length before + length rows ≤ max_rows → rows_from names config (text_left text (Some format) line) before ≡ rows_from names config (text_left left (Some format) next) (before ++ rows)
  pub onward : line ≤ next
  pub further : 0 < length rows → line < next
  pub short : next + length left ≤ max_lines
  pub counted : next + length (records_in left) ≡ line + length (records_in text)

-- where all of a part of a file was read, its lines give its rows
abbrev pub PartGives : NameLists → SegmentConfig → OrderFormat → List ℕ → FilePart → Type 0
PartGives names config format text part =
    part.is_whole ≡ true → LinesGive names config format (last_bytes part.from text) part.first (last_bytes part.to text) part.next part.batch.rows
