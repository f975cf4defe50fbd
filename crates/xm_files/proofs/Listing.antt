-- How far the orders and stops of a carry file were read.
use Rattle.std.proofs.Common.{◌≡◌, ℕ, ◌+◌, ◌<◌, ◌≤◌, Bool, false, ◌==◌, if◌then◌else◌, List, [], ◌∷◌, length, Option, Some, None, Result, Ok, Err, refl, ap, arith, sym, ◌∙◌}
use Rattle.csv.specs.Reading.{default_config, records, strip_bom}
use Rattle.xm_files.proofs.CsvFields.{same-number}
use Rattle.xm_files.proofs.LineRecords.{fed-records, line-records, line-shorter, strip-fed}
use Rattle.xm_files.specs.Carry.{NoCarryHeader, empty_lists, listed_in, lists_after, lists_in, with_carry_record, with_listed}
use Rattle.xm_files.specs.FileFaults.{fault_at, result_then}
use Rattle.xm_files.specs.Names.{NameLists}
use Rattle.xm_files.specs.Orders.{IsUnder, max_lines, records_in}
use Rattle.xm_files.specs.Plain.{ReadsLine}
use Rattle.xm_files.specs.Rows.{by_column, carry_columns, is_header}
use Rattle.xm_files.specs.Unread.{CsvLeft, with_ahead}
use Rattle.xm_files.specs.declared.file_faults.FileCause.TheVariants.{BadHeader, Syntax}
use Rattle.xm_files.specs.declared.file_faults.FileFault.{FileFault}
use Rattle.xm_files.specs.declared.order_format.OrderFormat.TheVariants.{Carry}
use Rattle.xm_rules.specs.Entries.{Entries}
use Rattle.xm_config.specs.declared.config.SecurityConfig.{SecurityConfig}

-- records that are none, or begin with no header
pub none-carried : (file : List (List (List ℕ))) → file ≡ [] → NoCarryHeader file (fault_at 1 BadHeader)
none-carried file none = λ names securities. ap (lists_in names securities) none

pub not-carried : (file more : List (List (List ℕ))) (header : List (List ℕ)) → file ≡ header ∷ more → is_header Carry header ≡ false → NoCarryHeader file (fault_at 1 BadHeader)
not-carried file more header first none = λ names securities.
    ap (lists_in names securities) first
    ∙ ap (λ (is : Bool). if is then lists_after names securities 2 (empty_lists securities) more else Err (fault_at 1 BadHeader)) none

-- behind the header come the orders and stops
pub carried-under : (names : NameLists) (securities : List SecurityConfig) (file more : List (List (List ℕ))) → IsUnder file Carry more
    → lists_in names securities file ≡ lists_after names securities 2 (empty_lists securities) more
carried-under names securities file more under =
    ap (lists_in names securities) under.first
    ∙ ap (λ (is : Bool). if is then lists_after names securities 2 (empty_lists securities) more else Err (fault_at 1 BadHeader)) under.is

-- what a record gives, if it has a field for each column, and if not
pub listed-record : (names : NameLists) (securities : List SecurityConfig) (line : ℕ) (lists : List Entries) (fields : List (List ℕ)) → length fields ≡ 10
    → with_carry_record names securities line lists fields ≡ with_listed line lists (listed_in names securities (by_column carry_columns fields))
listed-record names securities line lists fields count = rw (count, same-number 10) refl

pub other-listed : (names : NameLists) (securities : List SecurityConfig) (line : ℕ) (lists : List Entries) (fields : List (List ℕ)) → (length fields == 10) ≡ false
    → with_carry_record names securities line lists fields ≡ Err (fault_at line Syntax)
other-listed names securities line lists fields other = rw other refl

-- lines were read, and behind the line feed of the last one comes the record with this number
pub record ListedLines (names : NameLists) (securities : List SecurityConfig) (all : Result (List Entries) FileFault) (more : List ℕ) (line : ℕ) (lists : List Entries) : Type 0 where
  pub so_far : all ≡ lists_after names securities line lists (records default_config (10 ∷ more))
  pub lines : line + length more < max_lines

fed-lists : (names : NameLists) (securities : List SecurityConfig) (text more : List ℕ) (line : ℕ) (lists : List Entries) → text ≡ 10 ∷ more
    → lists_after names securities line lists (records_in text) ≡ lists_after names securities line lists (records default_config (10 ∷ more))
fed-lists names securities text more line lists fed = ap (λ (t : List ℕ). lists_after names securities line lists (records default_config t)) (ap strip_bom fed ∙ strip-fed more)

pub listing-begins : (names : NameLists) (securities : List SecurityConfig) (text more : List ℕ) (line : ℕ) (lists : List Entries) → text ≡ 10 ∷ more → line + length text ≤ max_lines
    → ListedLines names securities (lists_after names securities line lists (records_in text)) more line lists
listing-begins names securities text more line lists fed short =
    let size = ap length fed in
    record {
      so_far = fed-lists names securities text more line lists fed;
      lines = omega (arith, size, short);
    }

-- the record behind the line feed, and what comes after it
next-listed : (names : NameLists) (securities : List SecurityConfig) (all : Result (List Entries) FileFault) (text more : List ℕ) (line : ℕ) (lists : List Entries) (fields : List (List ℕ)) → ListedLines names securities all text line lists
    → ReadsLine text fields more → length fields ≡ 10
    → all ≡ result_then (with_listed line lists (listed_in names securities (by_column carry_columns fields))) (λ longer. lists_after names securities (line + 1) longer (records default_config (10 ∷ more)))
next-listed names securities all text more line lists fields p reads count =
    p.so_far
    ∙ ap (lists_after names securities line lists) (fed-records text ∙ line-records text more fields reads)
    ∙ ap (λ (r : Result (List Entries) FileFault). result_then r (λ longer. lists_after names securities (line + 1) longer (records default_config (10 ∷ more)))) (listed-record names securities line lists fields count)

pub listing-more : (names : NameLists) (securities : List SecurityConfig) (all : Result (List Entries) FileFault) (text more : List ℕ) (line : ℕ) (lists longer : List Entries) (fields : List (List ℕ)) → ListedLines names securities all text line lists
    → ReadsLine text fields more → length fields ≡ 10 → with_listed line lists (listed_in names securities (by_column carry_columns fields)) ≡ Ok longer → ListedLines names securities all more (line + 1) longer
listing-more names securities all text more line lists longer fields p reads count good =
    let shorter = line-shorter text more fields reads in
    let lines = p.lines in
    record {
      so_far = next-listed names securities all text more line lists fields p reads count ∙ rw good refl;
      lines = omega (arith, shorter, lines);
    }

pub listing-fault : (names : NameLists) (securities : List SecurityConfig) (all : Result (List Entries) FileFault) (text more : List ℕ) (line : ℕ) (lists : List Entries) (fields : List (List ℕ)) (fault : FileFault)
    → ListedLines names securities all text line lists → ReadsLine text fields more → length fields ≡ 10 → with_listed line lists (listed_in names securities (by_column carry_columns fields)) ≡ Err fault → all ≡ Err fault
listing-fault names securities all text more line lists fields fault p reads count bad = next-listed names securities all text more line lists fields p reads count ∙ rw bad refl

-- CSV reads on from the line feed
pub listing-ends : (names : NameLists) (securities : List SecurityConfig) (all : Result (List Entries) FileFault) (left more : List ℕ) (line : ℕ) (lists : List Entries) → ListedLines names securities all more line lists → left ≡ 10 ∷ more
    → all ≡ lists_after names securities line lists (records_in left)
listing-ends names securities all left more line lists p fed = p.so_far ∙ sym (fed-lists names securities left more line lists fed)

-- what CSV has yet to read of a carry file
abbrev pub lists_from : NameLists → List SecurityConfig → CsvLeft → List Entries → Result (List Entries) FileFault
lists_from names securities csv lists = lists_after names securities csv.line lists (with_ahead csv.ahead csv.behind)

-- what was read goes on with the record that waits
pub listed-next : (names : NameLists) (securities : List SecurityConfig) (all : Result (List Entries) FileFault) (old new : CsvLeft) (lists : List Entries) (fields : List (List ℕ)) → all ≡ lists_from names securities old lists
    → with_ahead new.ahead new.behind ≡ with_ahead old.ahead old.behind → new.line ≡ old.line → new.ahead ≡ Some fields → all ≡ lists_after names securities new.line lists (fields ∷ new.behind)
listed-next names securities all old new lists fields read same line ahead =
    read
    ∙ ap (λ (k : ℕ). lists_after names securities k lists (with_ahead old.ahead old.behind)) (sym line)
    ∙ ap (lists_after names securities new.line lists) (sym same ∙ ap (λ (o : Option (List (List ℕ))). with_ahead o new.behind) ahead)

pub listed-fault : (names : NameLists) (securities : List SecurityConfig) (all : Result (List Entries) FileFault) (line : ℕ) (lists : List Entries) (fields : List (List ℕ)) (more : List (List (List ℕ))) (fault : FileFault)
    → all ≡ lists_after names securities line lists (fields ∷ more) → with_carry_record names securities line lists fields ≡ Err fault → all ≡ Err fault
listed-fault names securities all line lists fields more fault read bad = read ∙ rw bad refl

pub listed-more : (names : NameLists) (securities : List SecurityConfig) (all : Result (List Entries) FileFault) (csv taken : CsvLeft) (lists longer : List Entries) (fields : List (List ℕ)) → all ≡ lists_after names securities csv.line lists (fields ∷ csv.behind)
    → with_carry_record names securities csv.line lists fields ≡ Ok longer → taken ≡ record { ahead = None; behind = csv.behind; line = csv.line + 1 } → all ≡ lists_from names securities taken longer
listed-more names securities all csv taken lists longer fields read good took = read ∙ rw (good, took) refl

-- no record is left
pub listed-all : (names : NameLists) (securities : List SecurityConfig) (all : Result (List Entries) FileFault) (old new : CsvLeft) (lists : List Entries) → all ≡ lists_from names securities old lists
    → with_ahead new.ahead new.behind ≡ with_ahead old.ahead old.behind → with_ahead new.ahead new.behind ≡ [] → all ≡ Ok lists
listed-all names securities all old new lists read same none = read ∙ ap (lists_after names securities old.line lists) (sym same ∙ none)
