-- The free texts of the records of an order file.
use Rattle.std.specs.Prelude.{ℕ, ◌-◌, Bool, false, if◌then◌else◌, nat_lt, List, [], ◌∷◌, get_or}
use Rattle.xm_files.specs.Orders.{records_in}
use Rattle.xm_files.specs.Rows.{by_column, columns_of, field, is_header}
use Rattle.xm_files.specs.declared.columns.Column.TheVariants as column
use Rattle.xm_files.specs.declared.order_format.OrderFormat.TheVariants.{Second}

-- records of a file that begins with this header have texts
abbrev pub have_texts : List (List (List ℕ)) → Bool
have_texts [] = false
have_texts (header ∷ records) = is_header Second header

-- the text of a record of the second format
abbrev pub text_in : List (List ℕ) → List ℕ
text_in fields = field column.Text (by_column (columns_of Second) fields)

-- the record of a file with this number, its header having the number `first`; it has no fields where there is no such record, as below
-- the header
abbrev pub record_at : ℕ → List (List (List ℕ)) → ℕ → List (List ℕ)
record_at first file line = if nat_lt line first then [] else get_or file (line - first) []

-- the text of the record of a file with this number, its header having the number `first`; it is empty where records have none, or there
-- is no such record
abbrev pub text_from : ℕ → List ℕ → ℕ → List ℕ
text_from first bytes line = let file = records_in bytes in if have_texts file then text_in (record_at first file line) else []

-- the same of a file that is the only one, or the first: its header has the number 1
abbrev pub text_of_record : List ℕ → ℕ → List ℕ
text_of_record bytes line = text_from 1 bytes line

-- the bytes of an order file, the number of its header, and the text that was read last of its records
pub record TextsRead : Type 0 where
  pub orders : List ℕ
  pub first : ℕ
  pub text : List ℕ

-- the texts of the records of that file, by their numbers
abbrev pub texts_in : TextsRead → ℕ → List ℕ
texts_in t = text_from t.first t.orders
