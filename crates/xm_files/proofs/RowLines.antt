-- Where the rows of an order file stand, and how many they are.
use Rattle.std.proofs.Common.{◌≡◌, ℕ, suc, ◌+◌, ◌<◌, ◌≤◌, ◌==◌, Bool, true, false, not, nat_lt, if◌then◌else◌, List, [], ◌∷◌, ◌++◌, length, map, Option, Some, None, option_map, Result, Ok, Err, refl, ap, arith, sym, subst, ◌∙◌}
use Rattle.std.proofs.lemmas.Bool.Decides.{nat_tests}
use Rattle.std.proofs.lemmas.List.{length-append}
use Rattle.std.proofs.lemmas.List.Elements.{All-append, All-cons, All-map, All-nil, All-same, All-weaker}
use Rattle.std.specs.List.{All, range_with_len}
use Rattle.xm_files.proofs.PartsRead.{rows-added}
use Rattle.xm_files.specs.FileFaults.{fault_at, max_bytes, result_then}
use Rattle.xm_files.specs.Names.{NameLists}
use Rattle.xm_files.specs.OrderFiles.{StandsIn}
use Rattle.xm_files.specs.Orders.{format_of, max_rows, orders_from, records_in, rows_after, rows_of_records, rows_under, with_record, with_rows}
use Rattle.xm_files.specs.Rows.{by_column, columns_of, record_entry, rows_of_entry}
use Rattle.xm_files.specs.declared.entries.RecordEntry.{RecordEntry}
use Rattle.xm_files.specs.declared.entries.RecordEntry.TheVariants.{One, Each}
use Rattle.xm_files.specs.declared.file_faults.FileCause.TheVariants.{Syntax, TooLong, TooManyRows}
use Rattle.xm_files.specs.declared.file_faults.FileFault.{FileFault}
use Rattle.xm_files.specs.declared.order_format.OrderFormat.{OrderFormat}
use Rattle.xm_config.specs.declared.config.SegmentConfig.{SegmentConfig}
use Rattle.xm_config.specs.declared.rows.Row.{Row}

abbrev AtLine : ℕ → Row → Type 0
AtLine line row = row.line ≡ line

-- the rows of an entry stand in its line
entry-lines : (line count : ℕ) (entry : Option RecordEntry) (more : List Row) → option_map (rows_of_entry line count) entry ≡ Some more → All (AtLine line) more
entry-lines line count None more e = cc
entry-lines line count (Some (One security made)) more e =
    let row : Row = record { line = line; security = security; command = made } in
    let same : row ∷ [] ≡ more = cc in
    All-same (AtLine line) more (row ∷ []) (sym same) (All-cons (AtLine line) row [] refl (All-nil (AtLine line)))
entry-lines line count (Some (Each phase)) more e =
    let of : ℕ → Row = λ security. record { line = line; security = security; command = phase } in
    let same : map of (range_with_len 0 count) ≡ more = cc in
    All-same (AtLine line) more (map of (range_with_len 0 count)) (sym same) (All-map (AtLine line) of (range_with_len 0 count) (λ k d h. refl))

-- rows that are no more than a file may have, and stand between two lines
pub record Stand (first next : ℕ) (rows : List Row) : Type 0 where
  pub few : length rows ≤ max_rows
  pub lines : All (StandsIn first next) rows

fits-by : (line : ℕ) (rows more sum : List Row) (many : Bool) → nat_lt max_rows (length rows + length more) ≡ many → (if many then Err (fault_at line TooManyRows) else Ok (rows ++ more)) ≡ Ok sum → length sum ≤ max_rows
fits-by line rows more sum true test e = cc
fits-by line rows more sum false test e =
    let same : rows ++ more ≡ sum = cc in
    let size = sym (length-append rows more) ∙ ap length same in
    let few : length rows + length more ≤ max_rows = grind (arith, nat_tests) in
    omega (arith, size, few)

rows-fit-in : (line : ℕ) (rows sum : List Row) (o : Option (List Row)) → with_rows line rows o ≡ Ok sum → length sum ≤ max_rows
rows-fit-in line rows sum None e = cc
rows-fit-in line rows sum (Some more) e = fits-by line rows more sum (nat_lt max_rows (length rows + length more)) refl e

record-stand : (first line next count : ℕ) (rows sum : List Row) (entry : Option RecordEntry) (other : Bool) → first < line → line < next → Stand first line rows
    → (if other then Err (fault_at line Syntax) else with_rows line rows (option_map (rows_of_entry line count) entry)) ≡ Ok sum → Stand first next sum
record-stand first line next count rows sum entry true behind before h e = cc
record-stand first line next count rows sum entry false behind before h e =
    let added = rows-added line rows sum (option_map (rows_of_entry line count) entry) e in
    let own = entry-lines line count entry added.0 added.1 in
    record {
      few = rows-fit-in line rows sum (option_map (rows_of_entry line count) entry) e;
      lines = All-same (StandsIn first next) sum (rows ++ added.0) added.2
          (All-append (StandsIn first next) rows added.0
          (All-weaker (StandsIn first line) (StandsIn first next) (λ row at. let below = at.1 in (at.0, omega (arith, below, before))) rows h.lines)
          (All-weaker (AtLine line) (StandsIn first next) (λ row at. (omega (arith, at, behind), omega (arith, at, before))) added.0 own));
    }

next-stand : (names : NameLists) (config : SegmentConfig) (format : OrderFormat) (first line next : ℕ) (sum : List Row) (r : Result (List Row) FileFault) (more : List (List (List ℕ)))
    → ((rows : List Row) → r ≡ Ok rows → Stand first line rows) → ((rows : List Row) → Stand first line rows → rows_after names config format line rows more ≡ Ok sum → Stand first next sum)
    → result_then r (λ rows. rows_after names config format line rows more) ≡ Ok sum → Stand first next sum
next-stand names config format first line next sum (Err fault) more one later e = cc
next-stand names config format first line next sum (Ok rows) more one later e = later rows (one rows refl) e

after-stand : (names : NameLists) (config : SegmentConfig) (format : OrderFormat) (first line next : ℕ) (rows sum : List Row) (records : List (List (List ℕ))) → first < line → line + length records ≤ next → Stand first line rows
    → rows_after names config format line rows records ≡ Ok sum → Stand first next sum
after-stand names config format first line next rows sum [] behind within h e =
    let same : rows ≡ sum = cc in
    subst (Stand first next) same
    (record { few = h.few; lines = All-weaker (StandsIn first line) (StandsIn first next) (λ row at. let below = at.1 in (at.0, omega (arith, below, within))) rows h.lines })
after-stand names config format first line next rows sum (fields ∷ more) behind within h e =
    next-stand names config format first (line + 1) next sum (with_record names config format line rows fields) more
    (λ one good.
    record-stand first line (line + 1) (length names.securities) rows one (record_entry format names config.securities (by_column (columns_of format) fields)) (not (length fields == length (columns_of format))) behind (omega arith) h good)
    (λ one stand rest. after-stand names config format first (line + 1) next one sum more (omega (arith, behind)) (omega (arith, within)) stand rest) e

under-stand : (names : NameLists) (config : SegmentConfig) (first next : ℕ) (format : Option OrderFormat) (rows : List Row) (records : List (List (List ℕ))) → first + suc (length records) ≤ next
    → rows_under names config first format [] records ≡ Ok rows → Stand first next rows
under-stand names config first next None rows records within e = cc
under-stand names config first next (Some format) rows records within e =
    after-stand names config format first (first + 1) next [] rows records (omega arith) (omega (arith, within)) (record { few = omega arith; lines = All-nil (StandsIn first (first + 1)) }) e

records-stand : (names : NameLists) (config : SegmentConfig) (first : ℕ) (rows : List Row) (file : List (List (List ℕ))) → rows_of_records names config first [] file ≡ Ok rows → Stand first (first + length file) rows
records-stand names config first rows [] e = cc
records-stand names config first rows (header ∷ records) e = under-stand names config first (first + length (header ∷ records)) (format_of header) rows records (omega arith) e

short-stand : (first next : ℕ) (long : Bool) (rows : List Row) (r : Result (List Row) FileFault) → (r ≡ Ok rows → Stand first next rows) → (if long then Err (fault_at 0 TooLong) else r) ≡ Ok rows → Stand first next rows
short-stand first next true rows r stand e = cc
short-stand first next false rows r stand e = stand e

-- the rows of a file stand behind its header, and before whatever comes behind the file
pub rows-stand : (names : NameLists) (config : SegmentConfig) (first : ℕ) (bytes : List ℕ) (rows : List Row) → orders_from names config first bytes ≡ Ok rows → Stand first (first + length (records_in bytes)) rows
rows-stand names config first bytes rows e =
    short-stand first (first + length (records_in bytes)) (nat_lt max_bytes (length bytes)) rows (rows_of_records names config first [] (records_in bytes)) (records-stand names config first rows (records_in bytes)) e

pub lines-within : (names : NameLists) (config : SegmentConfig) (first : ℕ) (bytes : List ℕ) (rows : List Row) → orders_from names config first bytes ≡ Ok rows → All (StandsIn first (first + length (records_in bytes))) rows
lines-within names config first bytes rows e = (rows-stand names config first bytes rows e).lines
