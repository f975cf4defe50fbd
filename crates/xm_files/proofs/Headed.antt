-- The header of an order file.
use Rattle.std.proofs.Common.{◌≡◌, ℕ, ◌+◌, ◌≤◌, true, false, ◌==◌, List, [], ◌∷◌, length, Option, Some, None, Err, refl, ap, arith, sym, ◌∙◌}
use Rattle.std.proofs.lemmas.Bool.{and_left, and_parts}
use Rattle.std.proofs.lemmas.Bool.Decides.{nat_tests}
use Rattle.csv.specs.Reading.{default_config, records, strip_bom}
use Rattle.xm_files.proofs.LineRecords.{line-records, line-shorter, strip-fed}
use Rattle.xm_files.specs.Batches.{RowsLeft, rows_from}
use Rattle.xm_files.specs.FileFaults.{fault_at}
use Rattle.xm_files.specs.Names.{NameLists}
use Rattle.xm_files.specs.Orders.{IsHeaded, IsUnder, NoHeader, format_of, records_in, rows_of_records, rows_under}
use Rattle.xm_files.specs.Plain.{ReadsLine}
use Rattle.xm_files.specs.Rows.{is_header}
use Rattle.xm_files.specs.declared.file_faults.FileCause.TheVariants.{BadHeader}
use Rattle.xm_files.specs.declared.file_faults.FileFault.{FileFault}
use Rattle.xm_files.specs.declared.order_format.OrderFormat.{OrderFormat}
use Rattle.xm_files.specs.declared.order_format.OrderFormat.TheVariants.{First, Second}
use Rattle.xm_config.specs.declared.config.SegmentConfig.{SegmentConfig}
use Rattle.xm_config.specs.declared.rows.Row.{Row}

other-count : (fields : List (List ℕ)) → (length fields == 13) ≡ true → (length fields == 12) ≡ false
other-count fields more = grind (arith, nat_tests)

-- the header of the first format says it, and so does that of the second
says-first : (fields : List (List ℕ)) → is_header First fields ≡ true → format_of fields ≡ Some First
says-first fields h = rw h refl

says-second : (fields : List (List ℕ)) → is_header Second fields ≡ true → format_of fields ≡ Some Second
says-second fields h =
    let count = (and_parts (length fields == 13) _ h).0 in
    let other : is_header First fields ≡ false = and_left (length fields == 12) _ (other-count fields count) in
    rw (other, h) refl

pub first-headed : (file more : List (List (List ℕ))) → IsUnder file First more → IsHeaded file First more
first-headed file more under = record { header = under.header; says = says-first under.header under.is; first = under.first }

pub second-headed : (file more : List (List (List ℕ))) → IsUnder file Second more → IsHeaded file Second more
second-headed file more under = record { header = under.header; says = says-second under.header under.is; first = under.first }

-- a text that begins with the header's line is left from its line feed on
pub headed-line : (format : OrderFormat) (text more left : List ℕ) (header : List (List ℕ)) → is_header format header ≡ true → strip_bom text ≡ text → ReadsLine text header more → left ≡ 10 ∷ more
    → IsUnder (records_in text) format (records_in left)
headed-line format text more left header is first reads fed = record {
  header = header;
  is = is;
  first = ap (λ (t : List ℕ). records default_config t) first ∙ line-records text more header reads ∙ ap (λ (t : List ℕ). header ∷ records default_config t) (sym (ap strip_bom fed ∙ strip-fed more));
}

pub headed-shorter : (text more left : List ℕ) (header : List (List ℕ)) → ReadsLine text header more → left ≡ 10 ∷ more → length left ≤ length text
headed-shorter text more left header reads fed =
    let shorter = line-shorter text more header reads in
    let size = ap length fed in
    omega (arith, shorter, size)

-- records that are none, or begin with no header
pub none-headed : (first : ℕ) (file : List (List (List ℕ))) → file ≡ [] → NoHeader first file (fault_at first BadHeader)
none-headed first file none = λ names config rows. ap (rows_of_records names config first rows) none

pub not-headed : (first : ℕ) (file more : List (List (List ℕ))) (header : List (List ℕ)) → file ≡ header ∷ more → format_of header ≡ None → NoHeader first file (fault_at first BadHeader)
not-headed first file more header begins none = λ names config rows.
    ap (rows_of_records names config first rows) begins ∙ ap (λ (format : Option OrderFormat). rows_under names config first format rows more) none

-- behind the header come the rows of its format
pub under-header : (names : NameLists) (config : SegmentConfig) (rows : List Row) (old new : RowsLeft) (format : OrderFormat) → old.format ≡ None → new.format ≡ Some format → new.line ≡ old.line + 1 → IsHeaded old.records format new.records
    → rows_from names config old rows ≡ rows_from names config new rows
under-header names config rows old new format unread known line headed =
    rw (unread, known, line, headed.first, headed.says) refl

pub without-header : (names : NameLists) (config : SegmentConfig) (rows : List Row) (old : RowsLeft) (fault : FileFault) → old.format ≡ None → NoHeader old.line old.records fault → rows_from names config old rows ≡ Err fault
without-header names config rows old fault unread none = rw unread (none names config rows)
