-- The text of the carry file: what a day leaves to the next one.
use Rattle.std.specs.Prelude.{◌≡◌, ◌≤◌, codes, ℕ, ◌+◌, true, All, List, [], ◌++◌, filter, length, map, Option, Some, None}
use Rattle.std.specs.Fmt.{decimal}
use Rattle.std.specs.List.{flat_map, list_all}
use Rattle.xm_rules.specs.Commands.{outlasts}
use Rattle.xm_rules.specs.Entries.{Entries}
use Rattle.xm_rules.specs.Orders.{limit_of}
use Rattle.xm_rules.specs.Settling.{order_of_stop}
use Rattle.xm_rules.specs.State.{State}
use Rattle.xm_rules.specs.Step.{Journal, is_lawful, replay}
use Rattle.xm_rules.specs.declared.carried.TheConstants.{MAX_CARRIED}
use Rattle.xm_rules.specs.declared.orders.Order.{Order}
use Rattle.xm_rules.specs.declared.orders.OrderKind.{OrderKind}
use Rattle.xm_rules.specs.declared.orders.OrderKind.TheVariants.{Market, Limit}
use Rattle.xm_rules.specs.declared.orders.Stop.{Stop}
use Rattle.xm_rules.specs.declared.orders.Validity.{Validity}
use Rattle.xm_rules.specs.declared.orders.Validity.TheVariants.{Day, TillDate, TillCancelled}
use Rattle.xm_config.specs.declared.config.SecurityConfig.{SecurityConfig}
use Rattle.xm_config.specs.declared.config.SegmentConfig.{SegmentConfig}
use Rattle.xm_ticks.specs.Writing.{price_text}
use Rattle.xm_ticks.specs.declared.numbers.TheConstants.{MAX_TICK_SIZE}
use Rattle.xm_files.specs.FileFaults.{max_bytes}
use Rattle.xm_files.specs.Names.{NameLists}
use Rattle.xm_files.specs.Segment.{are_distinct_texts, is_name}
use Rattle.xm_texts.specs.Statement.{each_text, name_at, restriction_word, side_word, validity_text}

-- the orders and stops that are valid beyond the day, in the order of the time list and in that of entry
abbrev pub carried_forward : State → Entries
carried_forward s =
    record {
      orders = filter (λ (o : Order). outlasts s.settings.today o.validity) s.orders;
      stops = filter (λ (stop : Stop). outlasts s.settings.today stop.validity) s.stops;
    }

-- an order, or the stop with this trigger that becomes one
abbrev pub kind_word : Option ℕ → OrderKind → List ℕ
kind_word None Market = codes "market"
kind_word None (Limit price) = codes "limit"
kind_word (Some trigger) Market = codes "stop-market"
kind_word (Some trigger) (Limit price) = codes "stop-limit"

-- a price, where there is one
abbrev pub given_price_text : ℕ → Option ℕ → List ℕ
given_price_text tick None = []
given_price_text tick (Some price) = price_text price tick

-- the record of an order of the security with this name, or of the stop with this trigger that becomes the order
abbrev pub entry_record : NameLists → List ℕ → ℕ → Option ℕ → Order → List ℕ
entry_record names security tick trigger o =
    security ++ codes "," ++ name_at names.members o.member ++ codes "," ++ decimal o.reference ++ codes "," ++ side_word o.side
    ++ codes "," ++ kind_word trigger o.kind ++ codes "," ++ given_price_text tick (limit_of o.kind) ++ codes "," ++ given_price_text tick trigger
    ++ codes "," ++ decimal o.rest ++ codes "," ++ validity_text o.validity ++ codes "," ++ restriction_word o.restriction ++ codes "\n"

abbrev pub carried_order : NameLists → List ℕ → ℕ → Order → List ℕ
carried_order names security tick o = entry_record names security tick None o

abbrev pub carried_stop : NameLists → List ℕ → ℕ → Stop → List ℕ
carried_stop names security tick stop = entry_record names security tick (Some stop.trigger) (order_of_stop stop)

-- the records of what the security with this index leaves: its orders, and then its stops
abbrev pub left_text : NameLists → ℕ → State → List ℕ
left_text names index s =
    flat_map (carried_order names (name_at names.securities index) s.settings.tick) (carried_forward s).orders
    ++ flat_map (carried_stop names (name_at names.securities index) s.settings.tick) (carried_forward s).stops

-- the securities from this index on
abbrev pub lefts_text : NameLists → ℕ → List State → List ℕ
lefts_text names index states = each_text (left_text names) index states

abbrev pub carry_header : List ℕ
carry_header = codes "security,member,reference,side,kind,limit,trigger,quantity,validity,restriction\n"

-- what the securities leave to the next day
abbrev pub carry_text : NameLists → List State → List ℕ
carry_text names states = carry_header ++ lefts_text names 0 states

-- ---- what is read back

-- names as segment files have them, of which none occurs again
pub record AreNames (texts : List (List ℕ)) : Type 0 where
  pub each : list_all is_name texts ≡ true
  pub distinct : are_distinct_texts texts ≡ true

-- a date has eight digits at most
abbrev pub HasDateOfEightDigits : Validity → Type 0
HasDateOfEightDigits Day = Unit {0}
HasDateOfEightDigits (TillDate date) = date ≤ 99999999
HasDateOfEightDigits TillCancelled = Unit {0}

-- what the numbers of an order or a stop fit into: a reference has 32 bits, as each typed one has, and a date eight digits
pub record FitsColumns (reference : ℕ) (validity : Validity) : Type 0 where
  pub bits : reference ≤ 4294967295
  pub date : HasDateOfEightDigits validity

-- a lawful journal of no more members than these, and a tick in range, that leaves no more than a security takes, with numbers that
-- fit their columns
pub record LeavesReadable (members : ℕ) (j : Journal) : Type 0 where
  pub lawful : is_lawful j ≡ true
  pub known : j.settings.members ≤ members
  pub tick_low : 1 ≤ j.settings.tick
  pub tick_high : j.settings.tick ≤ MAX_TICK_SIZE
  pub orders : All (λ (o : Order). FitsColumns o.reference o.validity) (carried_forward (replay j)).orders
  pub stops : All (λ (stop : Stop). FitsColumns stop.reference stop.validity) (carried_forward (replay j)).stops
  pub few : length (carried_forward (replay j)).orders + length (carried_forward (replay j)).stops ≤ MAX_CARRIED

-- a journal for each security of these settings, in index order, which leave a file that may be read under these names
pub record CanBeRead (names : NameLists) (config : SegmentConfig) (journals : List Journal) : Type 0 where
  pub members : AreNames names.members
  pub securities : AreNames names.securities
  pub named : length names.securities ≡ length config.securities
  pub ticks : map (λ (j : Journal). j.settings.tick) journals ≡ map (λ (security : SecurityConfig). security.tick) config.securities
  pub each : All (LeavesReadable (length names.members)) journals
  pub short : length (carry_text names (map replay journals)) ≤ max_bytes
