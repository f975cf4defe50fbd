-- How many records a file has that has no fault: the header has a field for each column at least, and each other record takes a byte at
-- least.
use Rattle.std.proofs.Common.{◌≡◌, ℕ, suc, ◌+◌, ◌≤◌, ◌==◌, Bool, true, false, nat_lt, if◌then◌else◌, List, [], ◌∷◌, ◌++◌, length, Option, Some, None, Ok, Err, refl, ap, arith, sym, add-one, ◌∙◌}
use Rattle.std.proofs.lemmas.Bool.{and_parts}
use Rattle.std.proofs.lemmas.Bool.Decides.{nat_tests}
use Rattle.std.proofs.lemmas.List.{length-append}
use Rattle.csv.specs.Machine.{Read, next_record, step, is_end, ends_at_end, fields_after, field_after}
use Rattle.csv.specs.Reading.{default_config, records_from, strip_bom}
use Rattle.csv.specs.declared.parser.Action.{Action}
use Rattle.csv.specs.declared.parser.Action.TheVariants as act
use Rattle.csv.specs.declared.parser.State.{State}
use Rattle.csv.specs.declared.parser.State.TheVariants as st
use Rattle.xm_files.proofs.Takes.{records-more, records-none, takes}
use Rattle.xm_files.proofs.Unread.{few-records, strip-shorter}
use Rattle.xm_files.specs.FileFaults.{fault_at, max_bytes}
use Rattle.xm_files.specs.Names.{NameLists}
use Rattle.xm_files.specs.Orders.{format_of, max_records, orders_from, records_in, rows_of_records, rows_under}
use Rattle.xm_files.specs.Rows.{is_header}
use Rattle.xm_files.specs.declared.file_faults.FileCause.TheVariants.{TooLong}
use Rattle.xm_files.specs.declared.order_format.OrderFormat.{OrderFormat}
use Rattle.xm_files.specs.declared.order_format.OrderFormat.TheVariants.{First, Second}
use Rattle.xm_config.specs.declared.config.SegmentConfig.{SegmentConfig}
use Rattle.xm_config.specs.declared.rows.Row.{Row}

-- an action adds a field at most
one-more : (a : Action) (fields : List (List ℕ)) (field : List ℕ) → length (fields_after a fields field) ≤ length fields + 1
one-more act.EndField fields field = let size = length-append fields (field ∷ []) in omega (arith, size)
one-more act.EndRecord fields field = let size = length-append fields (field ∷ []) in omega (arith, size)
one-more act.Skip fields field = omega arith
one-more act.Copy fields field = omega arith

-- so many fields of a record and bytes behind it there are at most
abbrev Fits : ℕ → Read → Type 0
Fits most read = length read.0 + length read.2 ≤ most

same-fits : (most : ℕ) (made read : Read) → Some made ≡ Some read → Fits most made → Fits most read
same-fits most made read same h = let e : made ≡ read = cc in rw (← e) h

end-fits : (t : Bool) (fields : List (List ℕ)) (field : List ℕ) (read : Read) → (if t then Some (fields ++ (field ∷ []), st.StartRecord, []) else None) ≡ Some read → Fits (length fields + 1) read
end-fits true fields field read h = let size = length-append fields (field ∷ []) in same-fits (length fields + 1) (fields ++ (field ∷ []), st.StartRecord, []) read h (omega (arith, size))
end-fits false fields field read h = cc

step-fits : (t : Bool) (most : ℕ) (made read : Read) (more : Option Read) → Fits most made → (more ≡ Some read → Fits most read) → (if t then Some made else more) ≡ Some read → Fits most read
step-fits true most made read more now later h = same-fits most made read h now
step-fits false most made read more now later h = later h

wider : (least most : ℕ) (read : Read) → least ≤ most → Fits least read → Fits most read
wider least most read more h = let few : length read.0 + length read.2 ≤ least = h in omega (arith, few, more)

-- each field of a record but the last takes a byte
fields-fit : (s : State) (fields : List (List ℕ)) (field text : List ℕ) (read : Read) → next_record default_config s fields field text ≡ Some read → Fits (length fields + length text + 1) read
unfolding next_record
fields-fit s fields field [] read h = wider (length fields + 1) _ read (omega arith) (end-fits (ends_at_end s) fields field read h)
fields-fit s fields field (c ∷ rest) read h =
    let next = step default_config s c in
    let added = fields_after next.1 fields field in
    let one = one-more next.1 fields field in
    step-fits (is_end next.1) _ (added, next.0, rest) read (next_record default_config next.0 added (field_after next.1 c field) rest) (omega (arith, one))
    (λ more. wider (length added + length rest + 1) _ read (omega (arith, one)) (fields-fit next.0 added (field_after next.1 c field) rest read more)) h

-- a text whose first record has so many fields has no more records than bytes but for these
first-of : (first : List (List ℕ)) (records : List (List (List ℕ))) (read : Read) (others : List (List (List ℕ))) → first ∷ records ≡ read.0 ∷ others → length first ≡ length read.0
first-of first records read others e = let same : first ≡ read.0 = cc in ap length same

few-by : (n : ℕ) (text : List ℕ) (first : List (List ℕ)) (records : List (List (List ℕ))) (o : Option Read) → next_record default_config st.StartRecord [] [] text ≡ o
    → records_from default_config (suc n) st.StartRecord text ≡ first ∷ records → length first + length (first ∷ records) ≤ length text + 2
few-by n text first records None e begins = let none = sym (records-none n st.StartRecord text e) ∙ begins in cc
few-by n text first records (Some read) e begins =
    let same = sym begins ∙ records-more n st.StartRecord text read e in
    let count = ap length same in
    let fields = first-of first records read (records_from default_config n read.1 read.2) same in
    let fits : length read.0 + length read.2 ≤ 0 + length text + 1 = fields-fit st.StartRecord [] [] text read e in
    let few = few-records n read.1 read.2 (takes st.StartRecord text read refl e).1 in
    omega (arith, count, fields, fits, few)

few-behind : (text : List ℕ) (first : List (List ℕ)) (records : List (List (List ℕ))) → records_in text ≡ first ∷ records → length first + length (first ∷ records) ≤ length text + 2
few-behind text first records begins =
    let own = strip_bom text in
    let shorter = strip-shorter text in
    let few = few-by (length own) own first records (next_record default_config st.StartRecord [] [] own) refl (ap (λ (n : ℕ). records_from default_config n st.StartRecord own) (sym (add-one (length own))) ∙ begins) in
    omega (arith, shorter, few)

-- a header has a field for each column of its format
wide-first : (fields : List (List ℕ)) → is_header First fields ≡ true → 12 ≤ length fields
wide-first fields h = let count = (and_parts (length fields == 12) _ h).0 in grind (arith, nat_tests)

wide-second : (fields : List (List ℕ)) → is_header Second fields ≡ true → 12 ≤ length fields
wide-second fields h = let count = (and_parts (length fields == 13) _ h).0 in grind (arith, nat_tests)

wide-by : (fields : List (List ℕ)) (one other : Bool) (format : OrderFormat) → is_header First fields ≡ one → is_header Second fields ≡ other → (if one then Some First else (if other then Some Second else None)) ≡ Some format → 12 ≤ length fields
wide-by fields true other format a b e = wide-first fields a
wide-by fields false true format a b e = wide-second fields b
wide-by fields false false format a b e = cc

wide-header : (fields : List (List ℕ)) (format : OrderFormat) → format_of fields ≡ Some format → 12 ≤ length fields
wide-header fields format e = wide-by fields (is_header First fields) (is_header Second fields) format refl refl e

few-under : (names : NameLists) (config : SegmentConfig) (first : ℕ) (bytes : List ℕ) (header : List (List ℕ)) (records : List (List (List ℕ))) (format : Option OrderFormat) (rows : List Row) → length bytes ≤ max_bytes
    → records_in bytes ≡ header ∷ records → format_of header ≡ format → rows_under names config first format [] records ≡ Ok rows → length (records_in bytes) ≤ max_records
few-under names config first bytes header records None rows short begins says e = cc
few-under names config first bytes header records (Some format) rows short begins says e =
    let wide = wide-header header format says in
    let few = few-behind bytes header records begins in
    let count = ap length begins in
    omega (arith, short, wide, few, count)

few-by-records : (names : NameLists) (config : SegmentConfig) (first : ℕ) (bytes : List ℕ) (file : List (List (List ℕ))) (rows : List Row) → length bytes ≤ max_bytes → records_in bytes ≡ file → rows_of_records names config first [] file ≡ Ok rows
    → length (records_in bytes) ≤ max_records
few-by-records names config first bytes [] rows short is e = cc
few-by-records names config first bytes (header ∷ records) rows short is e = few-under names config first bytes header records (format_of header) rows short is refl e

few-short : (names : NameLists) (config : SegmentConfig) (first : ℕ) (bytes : List ℕ) (rows : List Row) (long : Bool) → nat_lt max_bytes (length bytes) ≡ long
    → (if long then Err (fault_at 0 TooLong) else rows_of_records names config first [] (records_in bytes)) ≡ Ok rows → length (records_in bytes) ≤ max_records
few-short names config first bytes rows true test e = cc
few-short names config first bytes rows false test e =
    let short : length bytes ≤ max_bytes = grind (arith, nat_tests) in
    few-by-records names config first bytes (records_in bytes) rows short refl e

-- the records of a file that has no fault
pub few-records-in : (names : NameLists) (config : SegmentConfig) (first : ℕ) (bytes : List ℕ) (rows : List Row) → orders_from names config first bytes ≡ Ok rows → length (records_in bytes) ≤ max_records
few-records-in names config first bytes rows e = few-short names config first bytes rows (nat_lt max_bytes (length bytes)) refl e
