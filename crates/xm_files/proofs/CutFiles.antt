-- A day of one order file, and of one that is cut in two.
use Rattle.std.proofs.Common.{◌≡◌, ℕ, ◌+◌, ◌≤◌, ◌==◌, Bool, true, false, not, nat_le, nat_lt, if◌then◌else◌, List, [], ◌∷◌, ◌++◌, length, map, Option, Some, None, Result, Ok, Err, append_assoc, refl, ap, arith, sym, subst, ◌∙◌}
use Rattle.std.proofs.lemmas.Bool.Decides.{nat_tests}
use Rattle.std.proofs.lemmas.List.{append-nil, length-append, map-append}
use Rattle.std.proofs.lemmas.List.Elements.{All-head, All-tail}
use Rattle.std.specs.List.{All}
use Rattle.xm_files.proofs.LaterFiles.{alone, later-after}
use Rattle.xm_files.proofs.Progress.{rows-fit}
use Rattle.xm_files.proofs.RowLines.{rows-stand}
use Rattle.xm_files.specs.FileFaults.{fault_at, max_bytes, result_then}
use Rattle.xm_files.specs.Names.{NameLists}
use Rattle.xm_files.specs.OrderFiles.{StandsIn, after_file, behind_cut, orders_of_files, rows_with_files}
use Rattle.xm_files.specs.Orders.{format_of, later_row, max_rows, orders_of, records_in, rows_after, rows_of_records, rows_under, with_record, with_rows}
use Rattle.xm_files.specs.Rows.{columns_of, rows_of_record}
use Rattle.xm_files.specs.declared.file_faults.FileCause.TheVariants.{Syntax, TooLong, TooManyRows}
use Rattle.xm_files.specs.declared.file_faults.FileFault.{FileFault}
use Rattle.xm_files.specs.declared.order_format.OrderFormat.{OrderFormat}
use Rattle.xm_config.specs.declared.config.SegmentConfig.{SegmentConfig}
use Rattle.xm_config.specs.declared.rows.Row.{Row}

-- behind no records rows stay where they are
pub not-later : (rows : List Row) → map (later_row 0) rows ≡ rows
not-later [] = refl
not-later (row ∷ rows) =
    let same : 0 + row.line ≡ row.line = omega arith in
    λ i. record row { line = same i } ∷ not-later rows i

pub lone-rows : (names : NameLists) (config : SegmentConfig) (bytes : List ℕ) (rows : List Row) → orders_of names config bytes ≡ Ok rows → orders_of_files names config (bytes ∷ []) ≡ Ok rows
lone-rows names config bytes rows e =
    (λ i. after_file 1 (e i) (λ own. rows_with_files names config 2 (0 + length (records_in bytes)) ([] ++ map (later_row 0) own) []))
    ∙ ap Ok (not-later rows)

pub lone-fault : (names : NameLists) (config : SegmentConfig) (bytes : List ℕ) (fault : FileFault) → orders_of names config bytes ≡ Err fault → orders_of_files names config (bytes ∷ []) ≡ Err (record { file = 1; fault = fault })
lone-fault names config bytes fault e = λ i. after_file 1 (e i) (λ own. rows_with_files names config 2 (0 + length (records_in bytes)) ([] ++ map (later_row 0) own) [])

-- Records behind others.

then-good : (r : Result (List Row) FileFault) (next : List Row → Result (List Row) FileFault) (sum : List Row) → result_then r next ≡ Ok sum → (rows : List Row) × (r ≡ Ok rows) × (next rows ≡ Ok sum)
then-good (Err fault) next sum e = cc
then-good (Ok rows) next sum e = (rows, refl, e)

-- the rows of the first of two lists of records, and of both
pub record Halves (names : NameLists) (config : SegmentConfig) (format : OrderFormat) (line : ℕ) (rows sum : List Row) (a b : List (List (List ℕ))) : Type 0 where
  pub middle : List Row
  pub first : rows_after names config format line rows a ≡ Ok middle
  pub second : rows_after names config format (line + length a) middle b ≡ Ok sum

halves : (names : NameLists) (config : SegmentConfig) (format : OrderFormat) (line : ℕ) (rows sum : List Row) (a b : List (List (List ℕ))) → rows_after names config format line rows (a ++ b) ≡ Ok sum → Halves names config format line rows sum a b
halves names config format line rows sum [] b e =
    let same : line + 0 ≡ line = omega arith in
    record { middle = rows; first = refl; second = ap (λ (n : ℕ). rows_after names config format n rows b) same ∙ e }
halves names config format line rows sum (fields ∷ a) b e =
    let one = then-good (with_record names config format line rows fields) (λ sum. rows_after names config format (line + 1) sum (a ++ b)) sum e in
    let more = halves names config format (line + 1) one.0 sum a b one.2 in
    let same : line + length (fields ∷ a) ≡ (line + 1) + length a = omega arith in
    record {
      middle = more.middle;
      first = ap (λ (r : Result (List Row) FileFault). result_then r (λ sum. rows_after names config format (line + 1) sum a)) one.1 ∙ more.first;
      second = ap (λ (n : ℕ). rows_after names config format n more.middle b) same ∙ more.second;
    }

-- The rows of records don't depend on those before them, but for the limit.

abbrev OwnRows : Result (List Row) FileFault → List Row → List Row → Type 0
OwnRows alone before sum = (own : List Row) × (alone ≡ Ok own) × (sum ≡ before ++ own)

own-by : (line : ℕ) (before rows sum more : List Row) (many : Bool) → nat_lt max_rows (length (before ++ rows) + length more) ≡ many
    → (if many then Err (fault_at line TooManyRows) else Ok ((before ++ rows) ++ more)) ≡ Ok sum → OwnRows (with_rows line rows (Some more)) before sum
own-by line before rows sum more true test e = cc
own-by line before rows sum more false test e =
    let all = length-append before rows in
    let few : length (before ++ rows) + length more ≤ max_rows = grind (arith, nat_tests) in
    let same : (before ++ rows) ++ more ≡ sum = cc in
    (rows ++ more, rows-fit line rows more (omega (arith, all, few)), sym same ∙ append_assoc before rows more)

own-rows : (line : ℕ) (before rows sum : List Row) (o : Option (List Row)) → with_rows line (before ++ rows) o ≡ Ok sum → OwnRows (with_rows line rows o) before sum
own-rows line before rows sum None e = cc
own-rows line before rows sum (Some more) e = own-by line before rows sum more (nat_lt max_rows (length (before ++ rows) + length more)) refl e

own-record : (line : ℕ) (before rows sum : List Row) (o : Option (List Row)) (other : Bool) → (if other then Err (fault_at line Syntax) else with_rows line (before ++ rows) o) ≡ Ok sum
    → OwnRows (if other then Err (fault_at line Syntax) else with_rows line rows o) before sum
own-record line before rows sum o true e = cc
own-record line before rows sum o false e = own-rows line before rows sum o e

own-after : (names : NameLists) (config : SegmentConfig) (format : OrderFormat) (line : ℕ) (before rows sum : List Row) (records : List (List (List ℕ))) → rows_after names config format line (before ++ rows) records ≡ Ok sum
    → OwnRows (rows_after names config format line rows records) before sum
own-after names config format line before rows sum [] e = let same : before ++ rows ≡ sum = cc in (rows, refl, sym same)
own-after names config format line before rows sum (fields ∷ more) e =
    let one = then-good (with_record names config format line (before ++ rows) fields) (λ sum. rows_after names config format (line + 1) sum more) sum e in
    let own = own-record line before rows one.0 (rows_of_record format names config line fields) (not (length fields == length (columns_of format))) one.1 in
    let rest = own-after names config format (line + 1) before own.0 sum more (ap (λ (r : List Row). rows_after names config format (line + 1) r more) (sym own.2) ∙ one.2) in (
      rest.0,
      ap (λ (r : Result (List Row) FileFault). result_then r (λ sum. rows_after names config format (line + 1) sum more)) own.1 ∙ rest.1,
      rest.2,
    )

-- The cut.

above-cut : (last : ℕ) (rows : List Row) → All (StandsIn 1 (last + 1)) rows → map (behind_cut last) rows ≡ rows
above-cut last [] h = refl
above-cut last (row ∷ rows) h =
    let at = (All-head (StandsIn 1 (last + 1)) row rows h).1 in
    let test : nat_le row.line last ≡ true = grind (arith, nat_tests) in
    let stays : behind_cut last row ≡ row = rw test refl in
    λ i. stays i ∷ above-cut last rows (All-tail (StandsIn 1 (last + 1)) row rows h) i

below-cut : (count next : ℕ) (rows : List Row) → All (StandsIn 1 next) rows → map (behind_cut (count + 1)) (map (later_row count) rows) ≡ map (later_row (count + 1)) rows
below-cut count next [] h = refl
below-cut count next (row ∷ rows) h =
    let at = (All-head (StandsIn 1 next) row rows h).0 in
    let test : nat_le (count + row.line) (count + 1) ≡ false = grind (arith, nat_tests) in
    let line : 1 + (count + row.line) ≡ (count + 1) + row.line = omega arith in
    let later : behind_cut (count + 1) (later_row count row) ≡ later_row (count + 1) row = rw test (λ i. record row { line = line i }) in
    λ i. later i ∷ below-cut count next rows (All-tail (StandsIn 1 next) row rows h) i

-- a short file whose header says this format
under-format : (names : NameLists) (config : SegmentConfig) (bytes : List ℕ) (header : List (List ℕ)) (records : List (List (List ℕ))) (format : OrderFormat) (rows : List Row) → records_in bytes ≡ header ∷ records → length bytes ≤ max_bytes
    → format_of header ≡ Some format → rows_after names config format 2 [] records ≡ Ok rows → orders_of names config bytes ≡ Ok rows
under-format names config bytes header records format rows is short says e =
    let test : nat_lt max_bytes (length bytes) ≡ false = grind (arith, nat_tests) in
    (λ i. if test i then Err (fault_at 0 TooLong) else rows_of_records names config 1 [] (is i))
    ∙ (λ i. rows_under names config 1 (says i) [] records)
    ∙ e

cut-under : (names : NameLists) (config : SegmentConfig) (header : List (List ℕ)) (a b : List (List (List ℕ))) (first second : List ℕ) (format : OrderFormat) (rows : List Row) → format_of header ≡ Some format → rows_after names config format 2 [] (a ++ b) ≡ Ok rows
    → records_in first ≡ header ∷ a → length first ≤ max_bytes → records_in second ≡ header ∷ b → length second ≤ max_bytes → orders_of_files names config (first ∷ second ∷ []) ≡ Ok (map (behind_cut (length a + 1)) rows)
cut-under names config header a b first second format rows says e is short is' short' =
    let count = length a in
    let parts = halves names config format 2 [] rows a b e in
    let above = parts.middle in
    let own = own-after names config format (2 + count) above [] rows b (ap (λ (r : List Row). rows_after names config format (2 + count) r b) (append-nil above) ∙ parts.second) in
    let after : 2 + count ≡ count + 2 = omega arith in
    let below = alone count (rows_after names config format 2 [] b) own.0 (sym (later-after names config format count 2 (2 + count) [] b (omega arith) after) ∙ own.1) in
    let one = under-format names config first header a format above is short says parts.first in
    let two = under-format names config second header b format below.0 is' short' says below.1 in
    let records : 0 + length (records_in first) ≡ count + 1 = (let size = ap length is in omega (arith, size)) in
    let next : 1 + length (records_in first) ≡ (count + 1) + 1 = (let size = ap length is in omega (arith, size)) in
    let stand = subst (λ (n : ℕ). All (StandsIn 1 n) above) next (rows-stand names config 1 first above one).lines in
    let stand' = (rows-stand names config 1 second below.0 two).lines in
    let all : rows ≡ above ++ map (later_row count) below.0 = own.2 ∙ ap (λ (r : List Row). above ++ r) (sym below.2) in
    (λ i. after_file 1 (one i) (λ own. rows_with_files names config 2 (0 + length (records_in first)) ([] ++ map (later_row 0) own) (second ∷ [])))
    ∙ (λ i. after_file 2 (two i) (λ own. rows_with_files names config 3 ((0 + length (records_in first)) + length (records_in second)) (not-later above i ++ map (later_row (records i)) own) []))
    ∙ ap Ok (sym (ap (map (behind_cut (count + 1))) all ∙ map-append (behind_cut (count + 1)) above (map (later_row count) below.0)
    ∙ (λ i. above-cut (count + 1) above stand i ++ below-cut count (1 + length (records_in second)) below.0 stand' i)))

cut-by-format : (names : NameLists) (config : SegmentConfig) (header : List (List ℕ)) (a b : List (List (List ℕ))) (first second : List ℕ) (format : Option OrderFormat) (rows : List Row) → format_of header ≡ format → rows_under names config 1 format [] (a ++ b) ≡ Ok rows
    → records_in first ≡ header ∷ a → length first ≤ max_bytes → records_in second ≡ header ∷ b → length second ≤ max_bytes → orders_of_files names config (first ∷ second ∷ []) ≡ Ok (map (behind_cut (length a + 1)) rows)
cut-by-format names config header a b first second None rows says e is short is' short' = cc
cut-by-format names config header a b first second (Some format) rows says e is short is' short' = cut-under names config header a b first second format rows says e is short is' short'

not-long : (long : Bool) (r : Result (List Row) FileFault) (rows : List Row) → (if long then Err (fault_at 0 TooLong) else r) ≡ Ok rows → r ≡ Ok rows
not-long true r rows e = cc
not-long false r rows e = e

pub cut-file : (names : NameLists) (config : SegmentConfig) (header : List (List ℕ)) (a b : List (List (List ℕ))) (whole first second : List ℕ) (rows : List Row) → records_in whole ≡ header ∷ (a ++ b) → orders_of names config whole ≡ Ok rows
    → records_in first ≡ header ∷ a → length first ≤ max_bytes → records_in second ≡ header ∷ b → length second ≤ max_bytes → orders_of_files names config (first ∷ second ∷ []) ≡ Ok (map (behind_cut (length a + 1)) rows)
cut-file names config header a b whole first second rows all e is short is' short' =
    cut-by-format names config header a b first second (format_of header) rows refl
    (ap (rows_of_records names config 1 []) (sym all) ∙ not-long (nat_lt max_bytes (length whole)) (rows_of_records names config 1 [] (records_in whole)) rows e)
    is short is' short'
