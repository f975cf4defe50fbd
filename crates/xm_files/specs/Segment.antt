-- What a segment file gives: its settings and its names, or its first fault.
use Rattle.std.specs.Prelude.{ℕ, ℤ, pos, negsuc, ◌+◌, Bool, true, ◌&&◌, ◌||◌, not, if◌then◌else◌, nat_lt, nat_le, List, [], ◌∷◌, ◌++◌, length, Option, Some, None, is_some, option_map, Result, Ok, Err, codes}
use Rattle.std.specs.List.{list_all, list_any}
use Rattle.std.specs.Option.{ok_or}
use Rattle.std.specs.Result.{result_ok}
use Rattle.std.specs.Str.{bytes_eq, is_utf8}
use Rattle.toml.specs.Data.{Data, Items, no_items, item, Members, no_members, member, get_member, as_str, as_integer, as_array, as_table}
use Rattle.toml.specs.Parse.{parse_document}
use Rattle.xm_rules.specs.Entries.{none_left}
use Rattle.xm_rules.specs.declared.settings.Widths.{Widths}
use Rattle.xm_ticks.specs.Reading.{price_of}
use Rattle.xm_files.specs.Steps.{◌>>=◌}
use Rattle.xm_files.specs.FileFaults.{fault_at, max_bytes, result_then}
use Rattle.xm_files.specs.Names.{NameLists, is_among}
use Rattle.xm_config.specs.declared.config.SecurityConfig.{SecurityConfig}
use Rattle.xm_config.specs.declared.config.SegmentConfig.{SegmentConfig}
use Rattle.xm_files.specs.declared.file_faults.FileCause.{FileCause}
use Rattle.xm_files.specs.declared.file_faults.FileCause.TheVariants.{TooLong, Syntax, MissingKey, UnknownKey, BadValue, DuplicateName}
use Rattle.xm_files.specs.declared.file_faults.FileFault.{FileFault}

-- the characters `A` to `Z` and `0` to `9`
abbrev pub is_name_character : ℕ → Bool
is_name_character byte = (nat_le 65 byte && nat_le byte 90) || (nat_le 48 byte && nat_le byte 57)

-- a name has 1 to 12 of these characters
abbrev pub is_name : List ℕ → Bool
is_name text = (nat_le 1 (length text) && nat_le (length text) 12) && list_all is_name_character text

-- the text, if it is a name
abbrev pub name_of : List ℕ → Option (List ℕ)
name_of text = if is_name text then Some text else None

-- the name that a value is
abbrev pub name_in : Data → Option (List ℕ)
name_in value = as_str value >>= name_of

-- the number, if it is within these bounds
abbrev pub within : ℕ → ℕ → ℤ → Option ℕ
within low high (pos n) = if nat_le low n && nat_le n high then Some n else None
within low high (negsuc n) = None

-- the whole number within these bounds that the value of a key is
abbrev pub number_at : List ℕ → ℕ → ℕ → Members → Option ℕ
number_at key low high table = (get_member key table >>= as_integer) >>= within low high

-- the price that the text of a key is, with this tick
abbrev pub price_at : List ℕ → ℕ → Members → Option ℕ
price_at key tick table = (get_member key table >>= as_str) >>= (λ text. result_ok (price_of text tick))

-- the array that the value of a key is
abbrev pub array_at : List ℕ → Members → Option Items
array_at key table = get_member key table >>= as_array

-- what the items of an array are, if each is such a value
abbrev pub all_in : {A : Type 0} → (Data → Option A) → Items → Option (List A)
all_in is no_items = Some []
all_in is (item value rest) = is value >>= (λ x. option_map (λ xs. x ∷ xs) (all_in is rest))

-- each of the keys is there
abbrev pub has_keys : List (List ℕ) → Members → Bool
has_keys keys table = list_all (λ key. is_some (get_member key table)) keys

-- no other key than these is there
abbrev pub has_only : List (List ℕ) → Members → Bool
has_only keys no_members = true
has_only keys (member key value rest) = list_any (bytes_eq key) keys && has_only keys rest

-- what a table with exactly these keys gives, where its values are lawful
abbrev pub checked : {A : Type 0} → List (List ℕ) → Members → Option A → Result A FileCause
checked keys table values =
    if not (has_keys keys table) then Err MissingKey
    else (if not (has_only keys table) then Err UnknownKey else ok_or values BadValue)

-- the values of the top keys: the date, the members' names and the securities' tables
pub record Top : Type 0 where
  pub today : ℕ
  pub members : List (List ℕ)
  pub securities : List Members

abbrev pub top_keys : List (List ℕ)
top_keys = codes "date" ∷ codes "members" ∷ codes "security" ∷ []

abbrev pub top_values : Members → Option Top
top_values table =
    number_at (codes "date") 0 99999999 table >>= (λ today.
    (array_at (codes "members") table >>= all_in name_in) >>= (λ members.
    (array_at (codes "security") table >>= all_in as_table) >>= (λ securities.
    Some (record { today = today; members = members; securities = securities }))))

abbrev pub top_of : Members → Result Top FileCause
top_of table = checked top_keys table (top_values table)

-- a security: its name and its settings
pub record Security : Type 0 where
  pub name : List ℕ
  pub settings : SecurityConfig

abbrev pub security_keys : List (List ℕ)
security_keys = codes "name" ∷ codes "tick" ∷ codes "reference" ∷ codes "dynamic" ∷ codes "static" ∷ codes "wide" ∷ codes "journal" ∷ []

-- three whole numbers of 32 bits; how they relate is no concern of the file
abbrev pub widths_in : Members → Option Widths
widths_in table =
    number_at (codes "dynamic") 0 4294967295 table >>= (λ dynamic.
    number_at (codes "static") 0 4294967295 table >>= (λ statics.
    number_at (codes "wide") 0 4294967295 table >>= (λ wide.
    Some (record { dynamic = dynamic; statics = statics; wide = wide }))))

abbrev pub settings_in : Members → Option SecurityConfig
settings_in table =
    number_at (codes "tick") 1 10000 table >>= (λ tick.
    price_at (codes "reference") tick table >>= (λ reference.
    widths_in table >>= (λ widths.
    number_at (codes "journal") 1 1000000 table >>= (λ limit.
    Some (record { tick = tick; reference = reference; widths = widths; limit = limit; carried = none_left })))))

abbrev pub security_values : Members → Option Security
security_values table =
    (get_member (codes "name") table >>= name_in) >>= (λ name.
    settings_in table >>= (λ settings.
    Some (record { name = name; settings = settings })))

abbrev pub security_of : Members → Result Security FileCause
security_of table = checked security_keys table (security_values table)

-- no name occurs again
abbrev pub are_distinct_texts : List (List ℕ) → Bool
are_distinct_texts [] = true
are_distinct_texts (name ∷ names) = not (is_among name names) && are_distinct_texts names

-- the securities in index order: their names and their settings
pub record ListedSecurities : Type 0 where
  pub names : List (List ℕ)
  pub settings : List SecurityConfig

-- a fault of the security that comes after these
abbrev pub fault_after : List (List ℕ) → FileCause → FileFault
fault_after names cause = fault_at (length names + 1) cause

-- these securities and one more, whose name is not among theirs
abbrev pub with_security : ListedSecurities → Result Security FileCause → Result ListedSecurities FileFault
with_security done (Err cause) = Err (fault_after done.names cause)
with_security done (Ok security) =
    if is_among security.name done.names then Err (fault_after done.names DuplicateName)
    else Ok (record { names = done.names ++ security.name ∷ []; settings = done.settings ++ security.settings ∷ [] })

-- these securities and those of the tables, or the first fault
abbrev pub securities_after : ListedSecurities → List Members → Result ListedSecurities FileFault
securities_after done [] = Ok done
securities_after done (table ∷ tables) = result_then (with_security done (security_of table)) (λ more. securities_after more tables)

-- the settings and the names of a segment
abbrev pub segment_from : Top → ListedSecurities → SegmentConfig × NameLists
segment_from top securities =
    (record { today = top.today; members = length top.members; securities = securities.settings }, record { members = top.members; securities = securities.names })

-- what the values of the top keys give
abbrev pub segment_with : Result Top FileCause → Result (SegmentConfig × NameLists) FileFault
segment_with (Err cause) = Err (fault_at 0 cause)
segment_with (Ok top) =
    if not (are_distinct_texts top.members) then Err (fault_at 0 DuplicateName)
    else result_then (securities_after (record { names = []; settings = [] }) top.securities) (λ securities. Ok (segment_from top securities))

-- what a table of TOML gives, if the text is one
abbrev pub segment_in : Option Members → Result (SegmentConfig × NameLists) FileFault
segment_in None = Err (fault_at 0 Syntax)
segment_in (Some table) = segment_with (top_of table)

-- the table that the bytes write in TOML, which is UTF-8; a byte order mark before it is dropped
abbrev pub document_of : List ℕ → Option Members
document_of bytes = if is_utf8 bytes then parse_document bytes else None

-- what the bytes of a segment file give
abbrev pub segment_of : List ℕ → Result (SegmentConfig × NameLists) FileFault
segment_of bytes = if nat_lt max_bytes (length bytes) then Err (fault_at 0 TooLong) else segment_in (document_of bytes)
