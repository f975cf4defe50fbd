-- A part of an order file that is read: so many rows, or a round.
use Rattle.std.specs.Prelude.{◌≡◌, ℕ, ◌<◌, ◌≤◌, Bool, true, false, ◌&&◌, nat_le, List, ◌++◌, length, Ok}
use Rattle.xm_files.specs.Batches.{RowsLeft, RowsRead, rows_from, rows_so_far}
use Rattle.xm_files.specs.Names.{NameLists}
use Rattle.xm_files.specs.Rows.{names_members_command}
use Rattle.xm_files.specs.Timetable.{ends_with_phase, is_one_round, rounds_from}
use Rattle.xm_files.specs.declared.part.Part.{Part}
use Rattle.xm_files.specs.declared.part.Part.TheVariants.{Rows, Round}
use Rattle.xm_config.specs.declared.config.SegmentConfig.{SegmentConfig}
use Rattle.xm_config.specs.declared.rows.Row.{Row}

-- a part that isn't the last has as many rows as asked for, and a round has one at least
abbrev pub IsFull : Part → List Row → Type 0
IsFull (Rows most) rows = most ≤ length rows
IsFull Round rows = 0 < length rows

-- so many rows are a whole part, whatever comes after them
abbrev pub is_whole_part : Part → ℕ → Bool
is_whole_part (Rows most) count = nat_le most count
is_whole_part Round count = false

-- a part ends before a record with this command word: a round where a member's row would follow a phase row
abbrev pub ends_before : Part → List Row → List ℕ → Bool
ends_before (Rows most) rows text = false
ends_before Round rows text = ends_with_phase rows && names_members_command text

-- rows that a part may have so far
abbrev pub is_so_far : Part → List Row → Bool
is_so_far (Rows most) rows = true
is_so_far Round rows = is_one_round rows

-- the rows of a batch are one round of the file, or none where there are none: members' rows, and then phase rows alone. Whichever
-- rows come after them, the rounds from the batch on are that one, and then those of the rows that come after
pub record IsRound (names : NameLists) (config : SegmentConfig) (file : RowsLeft) (batch : RowsRead) : Type 0 where
  pub rows_are : is_one_round batch.rows ≡ true
  pub one : length (rounds_from (length batch.earlier) batch.rows) ≤ 1
  pub apart : (more : List Row) → rows_from names config file (rows_so_far batch) ≡ Ok (rows_so_far batch ++ more) → rounds_from (length batch.earlier) (batch.rows ++ more) ≡ rounds_from (length batch.earlier) batch.rows ++ rounds_from (length (rows_so_far batch)) more
