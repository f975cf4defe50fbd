-- What a file gives that others come before: the same as alone, with numbers that count on.
use Rattle.std.proofs.Common.{◌≡◌, ℕ, ◌+◌, ◌-◌, ◌≤◌, ◌==◌, Bool, true, false, not, nat_lt, if◌then◌else◌, List, [], ◌∷◌, ◌++◌, length, map, Option, Some, None, option_map, Result, Ok, Err, refl, ap, arith, sym, ◌∙◌}
use Rattle.std.proofs.lemmas.Bool.Decides.{nat_tests}
use Rattle.std.proofs.lemmas.List.{length-map}
use Rattle.std.specs.List.{range_with_len}
use Rattle.xm_files.specs.FileFaults.{fault_at, later_fault, max_bytes, own_fault, result_then}
use Rattle.xm_files.specs.Names.{NameLists}
use Rattle.xm_files.specs.Orders.{format_of, later_orders, later_row, max_rows, orders_from, orders_of, records_in, rows_after, rows_of_records, rows_under, with_record, with_rows}
use Rattle.xm_files.specs.Rows.{by_column, columns_of, record_entry, rows_of_entry, rows_of_record}
use Rattle.xm_files.specs.declared.entries.RecordEntry.{RecordEntry}
use Rattle.xm_files.specs.declared.entries.RecordEntry.TheVariants.{One, Each}
use Rattle.xm_files.specs.declared.file_faults.FileCause.{FileCause}
use Rattle.xm_files.specs.declared.file_faults.FileCause.TheVariants.{BadField, Syntax, TooLong, TooManyRows}
use Rattle.xm_files.specs.declared.file_faults.FileFault.{FileFault}
use Rattle.xm_files.specs.declared.order_format.OrderFormat.{OrderFormat}
use Rattle.xm_config.specs.declared.config.SegmentConfig.{SegmentConfig}
use Rattle.xm_config.specs.declared.rows.Row.{Row}

-- a fault of a record
later-line : (before line line' : ℕ) (cause : FileCause) → 1 ≤ line → line' ≡ before + line → fault_at line' cause ≡ later_fault before (fault_at line cause)
later-line before line line' cause counted on =
    let some : (line == 0) ≡ false = grind (arith, nat_tests) in
    rw (some, on) refl

-- the rows of an entry
later-each : (before line line' : ℕ) (of : ℕ → ℕ → Row) → ((security : ℕ) → of line' security ≡ later_row before (of line security)) → (securities : List ℕ)
    → map (of line') securities ≡ map (later_row before) (map (of line) securities)
later-each before line line' of same [] = refl
later-each before line line' of same (security ∷ more) = λ i. same security i ∷ later-each before line line' of same more i

later-entry : (before line line' count : ℕ) (entry : Option RecordEntry) → line' ≡ before + line
    → option_map (rows_of_entry line' count) entry ≡ option_map (map (later_row before)) (option_map (rows_of_entry line count) entry)
later-entry before line line' count None on = refl
later-entry before line line' count (Some (One security made)) on = λ i. Some (record { line = on i; security = security; command = made } ∷ [])
later-entry before line line' count (Some (Each phase)) on =
    let of : ℕ → ℕ → Row = λ line security. record { line = line; security = security; command = phase } in
    ap Some (later-each before line line' of (λ security i. record { line = on i; security = security; command = phase }) (range_with_len 0 count))

later-append : (f : Row → Row) (xs ys : List Row) → map f (xs ++ ys) ≡ map f xs ++ map f ys
later-append f [] ys = refl
later-append f (x ∷ xs) ys = ap (λ (zs : List Row). f x ∷ zs) (later-append f xs ys)

-- the rows so far, and those of one more record
later-fits : (before line line' : ℕ) (rows more : List Row) (many : Bool) → 1 ≤ line → line' ≡ before + line
    → (if many then Err (fault_at line' TooManyRows) else Ok (map (later_row before) rows ++ map (later_row before) more)) ≡ later_orders before (if many then Err (fault_at line TooManyRows) else Ok (rows ++ more))
later-fits before line line' rows more true counted on = ap Err (later-line before line line' TooManyRows counted on)
later-fits before line line' rows more false counted on = ap Ok (sym (later-append (later_row before) rows more))

later-more : (before line line' : ℕ) (rows : List Row) (more : Option (List Row)) → 1 ≤ line → line' ≡ before + line
    → with_rows line' (map (later_row before) rows) (option_map (map (later_row before)) more) ≡ later_orders before (with_rows line rows more)
later-more before line line' rows None counted on = ap Err (later-line before line line' BadField counted on)
later-more before line line' rows (Some more) counted on =
    (λ i. if nat_lt max_rows (length-map rows (later_row before) i + length-map more (later_row before) i) then Err (fault_at line' TooManyRows) else Ok (map (later_row before) rows ++ map (later_row before) more))
    ∙ later-fits before line line' rows more (nat_lt max_rows (length rows + length more)) counted on

later-of-count : (before line line' : ℕ) (other : Bool) (rows rows' : Result (List Row) FileFault) → 1 ≤ line → line' ≡ before + line → rows' ≡ later_orders before rows
    → (if other then Err (fault_at line' Syntax) else rows') ≡ later_orders before (if other then Err (fault_at line Syntax) else rows)
later-of-count before line line' true rows rows' counted on same = ap Err (later-line before line line' Syntax counted on)
later-of-count before line line' false rows rows' counted on same = same

later-record : (names : NameLists) (config : SegmentConfig) (format : OrderFormat) (before line line' : ℕ) (rows : List Row) (fields : List (List ℕ)) → 1 ≤ line → line' ≡ before + line
    → with_record names config format line' (map (later_row before) rows) fields ≡ later_orders before (with_record names config format line rows fields)
later-record names config format before line line' rows fields counted on =
    let entry = record_entry format names config.securities (by_column (columns_of format) fields) in
    later-of-count before line line' (not (length fields == length (columns_of format))) (with_rows line rows (rows_of_record format names config line fields))
    (with_rows line' (map (later_row before) rows) (rows_of_record format names config line' fields)) counted on
    (ap (with_rows line' (map (later_row before) rows)) (later-entry before line line' (length names.securities) entry on)
    ∙ later-more before line line' rows (rows_of_record format names config line fields) counted on)

-- the rows of all records behind a header
later-then : (before : ℕ) (rows : Result (List Row) FileFault) (next next' : List Row → Result (List Row) FileFault) → ((sum : List Row) → next' (map (later_row before) sum) ≡ later_orders before (next sum))
    → result_then (later_orders before rows) next' ≡ later_orders before (result_then rows next)
later-then before (Ok sum) next next' same = same sum
later-then before (Err fault) next next' same = refl

pub later-after : (names : NameLists) (config : SegmentConfig) (format : OrderFormat) (before line line' : ℕ) (rows : List Row) (records : List (List (List ℕ))) → 1 ≤ line → line' ≡ before + line
    → rows_after names config format line' (map (later_row before) rows) records ≡ later_orders before (rows_after names config format line rows records)
later-after names config format before line line' rows [] counted on = refl
later-after names config format before line line' rows (fields ∷ more) counted on =
    ap (λ (r : Result (List Row) FileFault). result_then r (λ sum. rows_after names config format (line' + 1) sum more)) (later-record names config format before line line' rows fields counted on)
    ∙ later-then before (with_record names config format line rows fields) (λ sum. rows_after names config format (line + 1) sum more) (λ sum. rows_after names config format (line' + 1) sum more)
    (λ sum. later-after names config format before (line + 1) (line' + 1) sum more (omega arith) (omega (arith, on)))

later-under : (names : NameLists) (config : SegmentConfig) (format : Option OrderFormat) (before : ℕ) (records : List (List (List ℕ)))
    → rows_under names config (before + 1) format [] records ≡ later_orders before (rows_under names config 1 format [] records)
later-under names config None before records = refl
later-under names config (Some format) before records = later-after names config format before 2 ((before + 1) + 1) [] records (omega arith) (omega arith)

later-records : (names : NameLists) (config : SegmentConfig) (before : ℕ) (file : List (List (List ℕ))) → rows_of_records names config (before + 1) [] file ≡ later_orders before (rows_of_records names config 1 [] file)
later-records names config before [] = refl
later-records names config before (header ∷ records) = later-under names config (format_of header) before records

later-short : (before : ℕ) (long : Bool) (rows rows' : Result (List Row) FileFault) → rows' ≡ later_orders before rows
    → (if long then Err (fault_at 0 TooLong) else rows') ≡ later_orders before (if long then Err (fault_at 0 TooLong) else rows)
later-short before true rows rows' same = refl
later-short before false rows rows' same = same

-- a file that so many records come before gives what it gives alone, with numbers that count on
pub later-file : (names : NameLists) (config : SegmentConfig) (before : ℕ) (bytes : List ℕ) → orders_from names config (before + 1) bytes ≡ later_orders before (orders_of names config bytes)
later-file names config before bytes =
    later-short before (nat_lt max_bytes (length bytes)) (rows_of_records names config 1 [] (records_in bytes)) (rows_of_records names config (before + 1) [] (records_in bytes))
    (later-records names config before (records_in bytes))

-- the rows that a file has alone, by those that it has behind others
pub alone : (before : ℕ) (r : Result (List Row) FileFault) (own : List Row) → later_orders before r ≡ Ok own → (rows : List Row) × (r ≡ Ok rows) × (map (later_row before) rows ≡ own)
alone before (Ok rows) own e = (rows, refl, cc)
alone before (Err fault) own e = cc

own-of : (before line : ℕ) (cause : FileCause) (none : Bool) → (line == 0) ≡ none → own_fault before (if none then fault_at line cause else fault_at (before + line) cause) ≡ fault_at line cause
own-of before line cause true test = let same : line - before ≡ line = (let zero : line ≡ 0 = grind (arith, nat_tests) in omega (arith, zero)) in ap (λ (n : ℕ). fault_at n cause) same
own-of before line cause false test = let same : (before + line) - before ≡ line = omega arith in ap (λ (n : ℕ). fault_at n cause) same

-- by its own number it is the fault that the file has alone
pub own-later : (before : ℕ) (fault : FileFault) → own_fault before (later_fault before fault) ≡ fault
own-later before fault = own-of before fault.line fault.cause (fault.line == 0) refl

abbrev fault-in : FileFault → Result (List Row) FileFault → FileFault
fault-in other (Ok rows) = other
fault-in other (Err fault) = fault

own-orders : (before : ℕ) (alone : Result (List Row) FileFault) (fault : FileFault) → later_orders before alone ≡ Err fault → alone ≡ Err (own_fault before fault)
own-orders before (Ok rows) fault e = cc
own-orders before (Err own) fault e = ap Err (sym (own-later before own) ∙ ap (own_fault before) (ap (fault-in fault) e))

pub own-file : (names : NameLists) (config : SegmentConfig) (before : ℕ) (bytes : List ℕ) (fault : FileFault) → orders_from names config (before + 1) bytes ≡ Err fault → orders_of names config bytes ≡ Err (own_fault before fault)
own-file names config before bytes fault e = own-orders before (orders_of names config bytes) fault (sym (later-file names config before bytes) ∙ e)
