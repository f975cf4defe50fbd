-- How far the rows of an order file were read.
use Rattle.std.proofs.Common.{◌++◌, nat_lt, ◌≡◌, ℕ, suc, ◌+◌, ◌<◌, ◌≤◌, false, ◌==◌, List, ◌∷◌, length, Some, Result, Ok, Err, refl, ap, arith, sym, ◌∙◌}
use Rattle.std.proofs.lemmas.Bool.Decides.{nat_tests}
use Rattle.csv.specs.Reading.{default_config, records, strip_bom}
use Rattle.xm_files.proofs.CsvFields.{same-number}
use Rattle.xm_files.proofs.LineRecords.{fed-records, line-records, line-shorter, strip-fed}
use Rattle.xm_files.specs.FileFaults.{fault_at, result_then}
use Rattle.xm_files.specs.Names.{NameLists}
use Rattle.xm_files.specs.Orders.{max_lines, max_rows, records_in, with_record, with_rows, rows_after}
use Rattle.xm_files.specs.Plain.{ReadsLine}
use Rattle.xm_files.specs.Rows.{columns_of, rows_of_record}
use Rattle.xm_files.specs.declared.file_faults.FileCause.TheVariants.{Syntax}
use Rattle.xm_files.specs.declared.file_faults.FileFault.{FileFault}
use Rattle.xm_files.specs.declared.order_format.OrderFormat.{OrderFormat}
use Rattle.xm_config.specs.declared.config.SegmentConfig.{SegmentConfig}
use Rattle.xm_config.specs.declared.rows.Row.{Row}

-- what a record gives, if it has a field for each column, and if not
pub row-record : (names : NameLists) (config : SegmentConfig) (format : OrderFormat) (line : ℕ) (rows : List Row) (fields : List (List ℕ)) → length fields ≡ length (columns_of format)
    → with_record names config format line rows fields ≡ with_rows line rows (rows_of_record format names config line fields)
row-record names config format line rows fields count = rw (count, same-number (length (columns_of format))) refl

pub other-record : (names : NameLists) (config : SegmentConfig) (format : OrderFormat) (line : ℕ) (rows : List Row) (fields : List (List ℕ)) → (length fields == length (columns_of format)) ≡ false
    → with_record names config format line rows fields ≡ Err (fault_at line Syntax)
other-record names config format line rows fields other = rw other refl

pub rows-fit : (line : ℕ) (rows more : List Row) → length rows + length more ≤ max_rows → with_rows line rows (Some more) ≡ Ok (rows ++ more)
rows-fit line rows more fits =
    let few : nat_lt max_rows (length rows + length more) ≡ false = grind (arith, nat_tests) in
    rw few refl

-- lines were read, and behind the line feed of the last one comes the record with this number
pub record Lines (names : NameLists) (config : SegmentConfig) (format : OrderFormat) (all : Result (List Row) FileFault) (more : List ℕ) (line : ℕ) (rows : List Row) : Type 0 where
  pub so_far : all ≡ rows_after names config format line rows (records default_config (10 ∷ more))
  pub lines : line + length more < max_lines

fed-text : (names : NameLists) (config : SegmentConfig) (format : OrderFormat) (text more : List ℕ) (line : ℕ) (rows : List Row) → text ≡ 10 ∷ more
    → rows_after names config format line rows (records_in text) ≡ rows_after names config format line rows (records default_config (10 ∷ more))
fed-text names config format text more line rows fed = ap (λ (t : List ℕ). rows_after names config format line rows (records default_config t)) (ap strip_bom fed ∙ strip-fed more)

-- a text that begins with a line feed has the records of what comes behind that
pub fed-count : (text more : List ℕ) → text ≡ 10 ∷ more → length (records_in text) ≡ length (records default_config (10 ∷ more))
fed-count text more fed = ap (λ (t : List ℕ). length (records default_config t)) (ap strip_bom fed ∙ strip-fed more)

-- a line that is read is one record
pub line-count : (text more : List ℕ) (fields : List (List ℕ)) → ReadsLine text fields more → length (records default_config (10 ∷ text)) ≡ suc (length (records default_config (10 ∷ more)))
line-count text more fields reads = ap length (fed-records text ∙ line-records text more fields reads)

pub lines-begin : (names : NameLists) (config : SegmentConfig) (format : OrderFormat) (text more : List ℕ) (line : ℕ) (rows : List Row) → text ≡ 10 ∷ more → line + length text ≤ max_lines
    → Lines names config format (rows_after names config format line rows (records_in text)) more line rows
lines-begin names config format text more line rows fed short =
    let size = ap length fed in
    record {
      so_far = fed-text names config format text more line rows fed;
      lines = omega (arith, size, short);
    }

-- the record behind the line feed, and what comes after it
next-line : (names : NameLists) (config : SegmentConfig) (format other : OrderFormat) (all : Result (List Row) FileFault) (text more : List ℕ) (line : ℕ) (rows : List Row) (fields : List (List ℕ)) → Lines names config format all text line rows
    → ReadsLine text fields more → other ≡ format → length fields ≡ length (columns_of format)
    → all ≡ result_then (with_rows line rows (rows_of_record other names config line fields)) (λ sum. rows_after names config format (line + 1) sum (records default_config (10 ∷ more)))
next-line names config format other all text more line rows fields p reads same count =
    p.so_far
    ∙ ap (rows_after names config format line rows) (fed-records text ∙ line-records text more fields reads)
    ∙ ap (λ (r : Result (List Row) FileFault). result_then r (λ sum. rows_after names config format (line + 1) sum (records default_config (10 ∷ more)))) (row-record names config format line rows fields count
    ∙ ap (λ (f : OrderFormat). with_rows line rows (rows_of_record f names config line fields)) (sym same))

pub lines-more : (names : NameLists) (config : SegmentConfig) (format other : OrderFormat) (all : Result (List Row) FileFault) (text more : List ℕ) (line : ℕ) (rows sum : List Row) (fields : List (List ℕ)) → Lines names config format all text line rows
    → ReadsLine text fields more → other ≡ format → length fields ≡ length (columns_of format) → with_rows line rows (rows_of_record other names config line fields) ≡ Ok sum → Lines names config format all more (line + 1) sum
lines-more names config format other all text more line rows sum fields p reads same count good =
    let shorter = line-shorter text more fields reads in
    let lines = p.lines in
    record {
      so_far = next-line names config format other all text more line rows fields p reads same count ∙ rw good refl;
      lines = omega (arith, shorter, lines);
    }

pub lines-fault : (names : NameLists) (config : SegmentConfig) (format other : OrderFormat) (all : Result (List Row) FileFault) (text more : List ℕ) (line : ℕ) (rows : List Row) (fields : List (List ℕ)) (fault : FileFault) → Lines names config format all text line rows
    → ReadsLine text fields more → other ≡ format → length fields ≡ length (columns_of format) → with_rows line rows (rows_of_record other names config line fields) ≡ Err fault → all ≡ Err fault
lines-fault names config format other all text more line rows fields fault p reads same count bad = next-line names config format other all text more line rows fields p reads same count ∙ rw bad refl

-- CSV reads on from the line feed
pub lines-end : (names : NameLists) (config : SegmentConfig) (format : OrderFormat) (all : Result (List Row) FileFault) (left more : List ℕ) (line : ℕ) (rows : List Row) → Lines names config format all more line rows → left ≡ 10 ∷ more
    → all ≡ rows_after names config format line rows (records_in left)
lines-end names config format all left more line rows p fed = p.so_far ∙ sym (fed-text names config format left more line rows fed)

-- the record behind the line feed comes first
pub line-next : (names : NameLists) (config : SegmentConfig) (format : OrderFormat) (left text more : List ℕ) (line : ℕ) (rows : List Row) (fields : List (List ℕ)) → left ≡ 10 ∷ text → ReadsLine text fields more
    → rows_after names config format line rows (records_in left) ≡ rows_after names config format line rows (fields ∷ records default_config (10 ∷ more))
line-next names config format left text more line rows fields fed reads =
    fed-text names config format left text line rows fed ∙ ap (rows_after names config format line rows) (fed-records text ∙ line-records text more fields reads)
