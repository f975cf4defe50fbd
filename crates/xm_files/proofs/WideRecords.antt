-- A record whose first fields are as many as any format has columns, and end with commas: whatever comes behind them, it has more.
use Rattle.std.proofs.Common.{◌≡◌, ℕ, ◌+◌, ◌<◌, ◌≤◌, Bool, true, false, ◌||◌, ◌==◌, if◌then◌else◌, List, [], ◌∷◌, ◌++◌, length, length-append, Option, Some, None, Result, Err, refl, ap, ◌∙◌, arith, add-one}
use Rattle.std.proofs.lemmas.Bool.{and_left}
use Rattle.std.proofs.lemmas.Bool.Decides.{nat_tests}
use Rattle.csv.specs.Machine.{Read, next_record, step, in_field, start_field, is_end, ends_at_end, fields_after, field_after}
use Rattle.csv.specs.Reading.{default_config, records, records_from, strip_bom}
use Rattle.csv.specs.declared.parser.Action.{Action}
use Rattle.csv.specs.declared.parser.Action.TheVariants as act
use Rattle.csv.specs.declared.parser.State.{State}
use Rattle.csv.specs.declared.parser.State.TheVariants as st
use Rattle.xm_files.proofs.Formats.{at-most-thirteen}
use Rattle.xm_files.proofs.Headed.{not-headed}
use Rattle.xm_files.proofs.LineRecords.{fed-records, strip-fed}
use Rattle.xm_files.proofs.PlainFields.{first-of, next-of}
use Rattle.xm_files.proofs.Listing.{not-carried, other-listed}
use Rattle.xm_files.proofs.Progress.{other-record}
use Rattle.xm_files.proofs.Takes.{records-more}
use Rattle.xm_files.specs.Carry.{NoCarryHeader, lists_after}
use Rattle.xm_files.specs.FileFaults.{fault_at, result_then}
use Rattle.xm_files.specs.Names.{NameLists}
use Rattle.xm_files.specs.Orders.{NoHeader, format_of, records_in, rows_after}
use Rattle.xm_files.specs.Plain.{BeginsWide, EndsAt}
use Rattle.xm_files.specs.Rows.{columns_of, is_header}
use Rattle.xm_files.specs.declared.file_faults.FileCause.TheVariants.{BadHeader, Syntax}
use Rattle.xm_files.specs.declared.file_faults.FileFault.{FileFault}
use Rattle.xm_files.specs.declared.order_format.OrderFormat.{OrderFormat}
use Rattle.xm_files.specs.declared.order_format.OrderFormat.TheVariants.{First, Second, Carry}
use Rattle.xm_rules.specs.Entries.{Entries}
use Rattle.xm_config.specs.declared.config.SecurityConfig.{SecurityConfig}
use Rattle.xm_config.specs.declared.config.SegmentConfig.{SegmentConfig}
use Rattle.xm_config.specs.declared.rows.Row.{Row}

-- a state within a record, at whose end there is a field more
abbrev is_within : State → Bool
is_within st.StartRecord = false
is_within st.AfterCr = false
is_within st.InComment = false
is_within _ = true

-- a step that doesn't end a record stays within it
abbrev Stays : State × Action → Type 0
Stays next = is_end next.1 ≡ false → is_within next.0 ≡ true

either : (t : Bool) (x y : State × Action) → Stays x → Stays y → Stays (if t then x else y)
either true x y a b = a
either false x y a b = b

in_field-stays : (c : ℕ) → Stays (in_field default_config c)
in_field-stays c =
    either (c == 44) (st.StartField, act.EndField) _ (λ going. refl)
    (either ((c == 13) || (c == 10)) (if c == 13 then st.AfterCr else st.StartRecord, act.EndRecord) (st.InField, act.Copy) (λ going. cc) (λ going. refl))

start_field-stays : (c : ℕ) → Stays (start_field default_config c)
start_field-stays c = either (c == 34) (st.InQuoted, act.Skip) (in_field default_config c) (λ going. refl) (in_field-stays c)

step-stays : (s : State) (c : ℕ) → is_within s ≡ true → Stays (step default_config s c)
step-stays st.StartRecord c within = cc
step-stays st.StartField c within = start_field-stays c
step-stays st.InField c within = in_field-stays c
step-stays st.InQuoted c within = either (c == 34) (st.AfterQuote, act.Skip) (st.InQuoted, act.Copy) (λ going. refl) (λ going. refl)
step-stays st.InEscape c within = λ going. refl
step-stays st.AfterQuote c within = either (c == 34) (st.InQuoted, act.Copy) (in_field default_config c) (λ going. refl) (in_field-stays c)
step-stays st.InComment c within = cc
step-stays st.AfterCr c within = cc

within-ends : (s : State) → is_within s ≡ true → ends_at_end s ≡ true
within-ends st.StartRecord within = cc
within-ends st.StartField within = refl
within-ends st.InField within = refl
within-ends st.InQuoted within = refl
within-ends st.InEscape within = refl
within-ends st.AfterQuote within = refl
within-ends st.InComment within = cc
within-ends st.AfterCr within = cc

-- a record is read that has more fields than these
abbrev ReadsMore : List (List ℕ) → Option Read → Type 0
ReadsMore fields o = (read : Read) × (o ≡ Some read) × (length fields < length read.0)

one-more : (fields : List (List ℕ)) (field : List ℕ) → length fields < length (fields ++ (field ∷ []))
one-more fields field = let size = length-append fields (field ∷ []) in omega (arith, size)

no-fewer : (a : Action) (fields : List (List ℕ)) (field : List ℕ) → length fields ≤ length (fields_after a fields field)
no-fewer act.EndRecord fields field = let more = one-more fields field in omega (arith, more)
no-fewer act.EndField fields field = let more = one-more fields field in omega (arith, more)
no-fewer act.Skip fields field = omega arith
no-fewer act.Copy fields field = omega arith

ended-more : (a : Action) (fields : List (List ℕ)) (field : List ℕ) → is_end a ≡ true → length fields < length (fields_after a fields field)
ended-more act.EndRecord fields field e = one-more fields field
ended-more act.EndField fields field e = cc
ended-more act.Skip fields field e = cc
ended-more act.Copy fields field e = cc

more-than : (few many : List (List ℕ)) (o : Option Read) → length few ≤ length many → ReadsMore many o → ReadsMore few o
more-than few many o fewer m = let more = m.2 in (m.0, m.1, omega (arith, more))

at-end : (t : Bool) (fields : List (List ℕ)) (field : List ℕ) → t ≡ true → ReadsMore fields (if t then Some (fields ++ (field ∷ []), st.StartRecord, []) else None)
at-end true fields field e = ((fields ++ (field ∷ []), st.StartRecord, []), refl, one-more fields field)
at-end false fields field e = cc

stepped : (next : State × Action) (t : Bool) → is_end next.1 ≡ t → (fields : List (List ℕ)) (field rest : List ℕ) (o : Option Read) → (is_end next.1 ≡ false → ReadsMore fields o)
    → ReadsMore fields (if t then Some (fields_after next.1 fields field, next.0, rest) else o)
stepped next true e fields field rest o later = ((fields_after next.1 fields field, next.0, rest), refl, ended-more next.1 fields field e)
stepped next false e fields field rest o later = later e

-- within a record the field at hand is one more, however the text goes on
reads-more : (s : State) (fields : List (List ℕ)) (field text : List ℕ) → is_within s ≡ true → ReadsMore fields (next_record default_config s fields field text)
unfolding next_record
reads-more s fields field [] within = at-end (ends_at_end s) fields field (within-ends s within)
reads-more s fields field (c ∷ rest) within =
    stepped (step default_config s c) (is_end (step default_config s c).1) refl fields field rest _
    (λ going. more-than fields (fields_after (step default_config s c).1 fields field) _ (no-fewer (step default_config s c).1 fields field)
    (reads-more (step default_config s c).0 (fields_after (step default_config s c).1 fields field) (field_after (step default_config s c).1 c field) rest (step-stays s c within going)))

-- so many fields were read, each of which a comma ends
pub record HasRead (text : List ℕ) (count : ℕ) (rest : List ℕ) : Type 0 where
  pub fields : List (List ℕ)
  pub many : length fields ≡ count
  pub read : next_record default_config st.StartRecord [] [] text ≡ next_record default_config st.StartField fields [] rest

pub read-first : (text field rest : List ℕ) → EndsAt 44 text field rest → HasRead text 1 rest
read-first text field rest ends = record { fields = field ∷ []; many = omega arith; read = first-of text field rest ends }

pub read-next : (text at field rest : List ℕ) (count : ℕ) → HasRead text count at → EndsAt 44 at field rest → HasRead text (count + 1) rest
read-next text at field rest count h ends =
    let size = length-append h.fields (field ∷ []) in
    let many = h.many in
    record {
      fields = h.fields ++ (field ∷ []);
      many = omega (arith, size, many);
      read = h.read ∙ next-of h.fields at field rest ends;
    }

pub read-wide : (text rest : List ℕ) → HasRead text 13 rest → BeginsWide text
read-wide text rest h =
    let more = reads-more st.StartField h.fields [] rest refl in
    let many = h.many in
    let greater = more.2 in
    (more.0, h.read ∙ more.1, λ format. let few = at-most-thirteen format in omega (arith, few, many, greater))

-- the records of a text that begins with such a record
wide-records : (text : List ℕ) (read : Read) → next_record default_config st.StartRecord [] [] text ≡ Some read → records default_config text ≡ read.0 ∷ records_from default_config (length text) read.1 read.2
wide-records text read e = ap (λ (n : ℕ). records_from default_config n st.StartRecord text) (add-one (length text)) ∙ records-more (length text) st.StartRecord text read e

other-length : (text : List ℕ) (w : BeginsWide text) (format : OrderFormat) → (length w.0.0 == length (columns_of format)) ≡ false
other-length text w format = let more = w.2 format in grind (arith, nat_tests)

-- as the first record it is no header
no-format : (text : List ℕ) (w : BeginsWide text) → format_of w.0.0 ≡ None
no-format text w =
    let first : is_header First w.0.0 ≡ false = and_left (length w.0.0 == length (columns_of First)) _ (other-length text w First) in
    let second : is_header Second w.0.0 ≡ false = and_left (length w.0.0 == length (columns_of Second)) _ (other-length text w Second) in
    rw (first, second) refl

pub wide-header : (text : List ℕ) → strip_bom text ≡ text → BeginsWide text → (first : ℕ) → NoHeader first (records_in text) (fault_at first BadHeader)
wide-header text unmarked w first =
    not-headed first (records_in text) (records_from default_config (length text) w.0.1 w.0.2) w.0.0 (ap (records default_config) unmarked ∙ wide-records text w.0 w.1) (no-format text w)

-- that of a carry file neither
pub wide-carry : (text : List ℕ) → strip_bom text ≡ text → BeginsWide text → NoCarryHeader (records_in text) (fault_at 1 BadHeader)
wide-carry text unmarked w =
    not-carried (records_in text) (records_from default_config (length text) w.0.1 w.0.2) w.0.0 (ap (records default_config) unmarked ∙ wide-records text w.0 w.1)
    (and_left (length w.0.0 == length (columns_of Carry)) _ (other-length text w Carry))

-- and as another it isn't as long as the first
pub wide-record : (text begun : List ℕ) → text ≡ 10 ∷ begun → BeginsWide begun → (names : NameLists) (config : SegmentConfig) (format : OrderFormat) (line : ℕ) (rows : List Row)
    → rows_after names config format line rows (records_in text) ≡ Err (fault_at line Syntax)
wide-record text begun fed w = λ names config format line rows.
    let more = records_from default_config (length begun) w.0.1 w.0.2 in
    ap (λ (t : List ℕ). rows_after names config format line rows (records default_config t)) (ap strip_bom fed ∙ strip-fed begun)
    ∙ ap (rows_after names config format line rows) (fed-records begun ∙ wide-records begun w.0 w.1)
    ∙ ap (λ (r : Result (List Row) FileFault). result_then r (λ sum. rows_after names config format (line + 1) sum more)) (other-record names config format line rows w.0.0 (other-length begun w format))

pub wide-listed : (text begun : List ℕ) → text ≡ 10 ∷ begun → BeginsWide begun → (names : NameLists) (securities : List SecurityConfig) (line : ℕ) (lists : List Entries)
    → lists_after names securities line lists (records_in text) ≡ Err (fault_at line Syntax)
wide-listed text begun fed w = λ names securities line lists.
    let more = records_from default_config (length begun) w.0.1 w.0.2 in
    ap (λ (t : List ℕ). lists_after names securities line lists (records default_config t)) (ap strip_bom fed ∙ strip-fed begun)
    ∙ ap (lists_after names securities line lists) (fed-records begun ∙ wide-records begun w.0 w.1)
    ∙ ap (λ (r : Result (List Entries) FileFault). result_then r (λ longer. lists_after names securities (line + 1) longer more)) (other-listed names securities line lists w.0.0 (other-length begun w Carry))
