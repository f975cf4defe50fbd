-- What a carry file gives: the settings of a segment with the orders and stops that it lists, or its first fault.
use Rattle.std.specs.Prelude.{◌≡◌, ℕ, ◌+◌, Bool, ◌&&◌, not, if◌then◌else◌, nat_le, nat_lt, ◌==◌, List, [], ◌∷◌, ◌++◌, length, map, get_or, slice_set, Option, Some, None, Result, Ok, Err}
use Rattle.std.specs.List.{list_any}
use Rattle.xm_rules.specs.Commands.{has_prices_in_range, is_bad_combination, is_in_range, trigger_of}
use Rattle.xm_rules.specs.Entries.{Entries, is_same_name, names, none_left, order_name, stop_name}
use Rattle.xm_rules.specs.Opening.{is_lasting}
use Rattle.xm_rules.specs.Step.{entered_order, stop_of}
use Rattle.xm_rules.specs.declared.carried.TheConstants.{MAX_CARRIED}
use Rattle.xm_rules.specs.declared.commands.Command.{Command}
use Rattle.xm_rules.specs.declared.commands.Command.TheVariants.{Enter}
use Rattle.xm_rules.specs.declared.commands.Condition.TheVariants.{Plain}
use Rattle.xm_rules.specs.declared.commands.Kind.{Kind}
use Rattle.xm_rules.specs.declared.orders.Order.{Order}
use Rattle.xm_rules.specs.declared.orders.Restriction.{Restriction}
use Rattle.xm_rules.specs.declared.orders.Validity.{Validity}
use Rattle.xm_config.specs.declared.config.SecurityConfig.{SecurityConfig}
use Rattle.xm_config.specs.declared.config.SegmentConfig.{SegmentConfig}
use Rattle.xm_files.specs.FileFaults.{fault_at, max_bytes, result_then}
use Rattle.xm_files.specs.Names.{NameLists}
use Rattle.xm_files.specs.Orders.{records_in}
use Rattle.xm_files.specs.Rows.{are_empty, by_column, carry_columns, field, is_header, name_index, order_command, tick_of}
use Rattle.xm_files.specs.Steps.{◌>>=◌}
use Rattle.xm_files.specs.declared.columns.Column.TheVariants as column
use Rattle.xm_files.specs.declared.file_faults.FileCause.TheVariants.{TooLong, Syntax, DuplicateName, BadHeader, BadField, TooManyRows}
use Rattle.xm_files.specs.declared.file_faults.FileFault.{FileFault}
use Rattle.xm_files.specs.declared.listed.CarriedEntry.{CarriedEntry}
use Rattle.xm_files.specs.declared.listed.CarriedEntry.TheVariants as entry
use Rattle.xm_files.specs.declared.listed.ListedEntry.{ListedEntry}
use Rattle.xm_files.specs.declared.order_format.OrderFormat.TheVariants.{Carry}

-- prices and units are in range, it is valid beyond the day of its entry, and a stop has no restriction
abbrev pub may_be_listed : Kind → ℕ → Validity → Restriction → Bool
may_be_listed kind quantity validity restriction =
    has_prices_in_range kind && is_in_range quantity && is_lasting validity && not (is_bad_combination Plain kind restriction)

-- an order, or the stop with this trigger that becomes it
abbrev pub entry_with_trigger : Option ℕ → Order → CarriedEntry
entry_with_trigger None o = entry.Order o
entry_with_trigger (Some trigger) o = entry.Stop (stop_of trigger o)

-- what a command would have entered on an earlier day, if that may be left
abbrev pub entry_left : Command → Option CarriedEntry
entry_left (Enter member reference side kind quantity validity restriction condition) =
    if may_be_listed kind quantity validity restriction
    then Some (entry_with_trigger (trigger_of kind) (entered_order member reference side kind quantity validity restriction)) else None
entry_left _ = None

-- the index of a name, which must be one of these
abbrev pub known_index : List (List ℕ) → List ℕ → Option ℕ
known_index names text = name_index names text >>= (λ index. if nat_lt index (length names) then Some index else None)

-- what the fields of a record say: those that the order file has are read as there, where an order is entered; the restriction is
-- named, and names of the segment and prices of the security's tick alone are lawful
abbrev pub listed_in : NameLists → List SecurityConfig → List (List ℕ) → Option ListedEntry
listed_in names securities fields =
    known_index names.securities (field column.Security fields) >>= (λ security.
    known_index names.members (field column.Member fields) >>= (λ member.
    (if are_empty (column.Restriction ∷ []) fields then None else order_command Carry (tick_of securities security) member fields) >>= (λ made.
    entry_left made >>= (λ entry.
    Some (record { security = security; entry = entry })))))

-- the member, and the member's own reference
abbrev pub entry_name : CarriedEntry → ℕ × ℕ
entry_name (entry.Order o) = order_name o
entry_name (entry.Stop stop) = stop_name stop

-- the orders and stops of a security, and one more at the end
abbrev pub one_more : Entries → CarriedEntry → Entries
one_more left (entry.Order o) = record left { orders = left.orders ++ o ∷ [] }
one_more left (entry.Stop stop) = record left { stops = left.stops ++ stop ∷ [] }

-- the same, where the entry, whose record has this number, has a name of its own and there are no more than a security takes
abbrev pub with_one_more : ℕ → Entries → CarriedEntry → Result Entries FileFault
with_one_more line left entry =
    if list_any (is_same_name (entry_name entry)) (names left) then Err (fault_at line DuplicateName)
    else (if nat_le MAX_CARRIED (length left.orders + length left.stops) then Err (fault_at line TooManyRows) else Ok (one_more left entry))

-- the lists of all securities, in index order, and what a record with this number says
abbrev pub with_listed : ℕ → List Entries → Option ListedEntry → Result (List Entries) FileFault
with_listed line lists None = Err (fault_at line BadField)
with_listed line lists (Some listed) =
    result_then (with_one_more line (get_or lists listed.security none_left) listed.entry) (λ left. Ok (slice_set lists listed.security left))

-- a record has a field for each column
abbrev pub with_carry_record : NameLists → List SecurityConfig → ℕ → List Entries → List (List ℕ) → Result (List Entries) FileFault
with_carry_record names securities line lists fields =
    if not (length fields == length carry_columns) then Err (fault_at line Syntax) else with_listed line lists (listed_in names securities (by_column carry_columns fields))

-- the lists and what the records say, of which the first has this number, or the first fault
abbrev pub lists_after : NameLists → List SecurityConfig → ℕ → List Entries → List (List (List ℕ)) → Result (List Entries) FileFault
lists_after names securities line lists [] = Ok lists
lists_after names securities line lists (fields ∷ more) =
    result_then (with_carry_record names securities line lists fields) (λ longer. lists_after names securities (line + 1) longer more)

-- nothing is listed for any security
abbrev pub empty_lists : List SecurityConfig → List Entries
empty_lists securities = map (λ _. none_left) securities

-- what the records of a file list, of which the first is the header
abbrev pub lists_in : NameLists → List SecurityConfig → List (List (List ℕ)) → Result (List Entries) FileFault
lists_in names securities [] = Err (fault_at 1 BadHeader)
lists_in names securities (header ∷ records) =
    if is_header Carry header then lists_after names securities 2 (empty_lists securities) records else Err (fault_at 1 BadHeader)

-- whatever the names and the settings, a file with these records has this fault
abbrev pub NoCarryHeader : List (List (List ℕ)) → FileFault → Type 0
NoCarryHeader file fault = (names : NameLists) (securities : List SecurityConfig) → lists_in names securities file ≡ Err fault

-- the settings of securities, with these lists in place of their own
abbrev pub with_lists : List SecurityConfig → List Entries → List SecurityConfig
with_lists [] lists = []
with_lists (security ∷ securities) [] = security ∷ securities
with_lists (security ∷ securities) (left ∷ lists) = record security { carried = left } ∷ with_lists securities lists

-- what the bytes of a carry file give
abbrev pub carry_of : NameLists → SegmentConfig → List ℕ → Result SegmentConfig FileFault
carry_of names config bytes =
    if nat_lt max_bytes (length bytes) then Err (fault_at 0 TooLong)
    else result_then (lists_in names config.securities (records_in bytes)) (λ lists. Ok (record config { securities = with_lists config.securities lists }))
