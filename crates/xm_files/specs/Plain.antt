-- Records without quotes, one to a line.
use Rattle.std.specs.Prelude.{◌≡◌, ℕ, ◌+◌, ◌-◌, ◌<◌, ◌≤◌, ◌==◌, Bool, true, false, ◌||◌, not, List, [], ◌∷◌, ◌++◌, Some, drop, get_or, length}
use Rattle.std.specs.Int.{bit_at}
use Rattle.std.specs.List.{list_all}
use Rattle.csv.specs.Machine.{Read, next_record}
use Rattle.csv.specs.Reading.{default_config}
use Rattle.csv.specs.declared.parser.State.TheVariants as state
use Rattle.xm_files.specs.Rows.{columns_of}
use Rattle.xm_files.specs.declared.order_format.OrderFormat.{OrderFormat}

-- a line feed, a carriage return, a quote or a comma
abbrev pub is_mark : ℕ → Bool
is_mark byte = (byte == 10) || ((byte == 13) || ((byte == 34) || (byte == 44)))

abbrev pub is_plain : List ℕ → Bool
is_plain field = list_all (λ byte. not (is_mark byte)) field

-- the text begins with this field, which has no mark, and this mark, and then goes on so
abbrev pub EndsAt : ℕ → List ℕ → List ℕ → List ℕ → Type 0
EndsAt mark text field rest = (text ≡ field ++ mark ∷ rest) × (is_plain field ≡ true)

-- a text, and the place up to which it is read
pub record TextFrom : Type 0 where
  pub text : List ℕ
  pub at : ℕ

-- what isn't read yet
abbrev pub rest_of : TextFrom → List ℕ
rest_of t = drop t.at t.text

-- the same with the byte before it
abbrev pub left_of : TextFrom → List ℕ
left_of t = drop (t.at - 1) t.text

-- the byte before what isn't read yet is this mark
abbrev pub IsBehind : ℕ → TextFrom → Type 0
IsBehind mark t = left_of t ≡ mark ∷ rest_of t

-- the next mark of a text stands here
pub record IsNextMark (t : TextFrom) (place : ℕ) : Type 0 where
  pub ahead : t.at ≤ place
  pub within : place < length t.text
  pub before : (k : ℕ) → t.at ≤ k → k < place → is_mark (get_or t.text k 0) ≡ false

-- a text is read up to one place, and its marks are looked at in all blocks of 64 bytes up to one: each mark from that place
-- on is in this block, and has its bit; what is read has none
pub record IsMarked (text : List ℕ) (at block bits : ℕ) : Type 0 where
  pub ahead : at ≤ block + 64
  pub within : block + 64 ≤ length text
  pub unread : (k : ℕ) → bit_at bits k ≡ 1 → at ≤ block + k
  pub marks : (k : ℕ) → at ≤ k → k < block + 64 → is_mark (get_or text k 0) ≡ true → (block ≤ k) × (bit_at bits (k - block) ≡ 1)

-- CSV reads a record of these fields first, which a line feed ends, and the text goes on so behind it
abbrev pub ReadsLine : List ℕ → List (List ℕ) → List ℕ → Type 0
ReadsLine text fields more = next_record default_config state.StartRecord [] [] text ≡ Some (fields, state.StartRecord, more)

-- CSV reads a record first that has more fields than any format has columns
abbrev pub BeginsWide : List ℕ → Type 0
BeginsWide text = (read : Read) × (next_record default_config state.StartRecord [] [] text ≡ Some read) × ((format : OrderFormat) → length (columns_of format) < length read.0)
