-- How the names of the held stops lead to their keys.
use Rattle.xm_stops.specs.Listing.{stop_owner, stop_reference}
use Rattle.xm_slots.specs.Listing.{listed_item}
use Rattle.xm_slots.specs.Naming.{have_own_names, key_by_name}
use Rattle.std.specs.Prelude.{◌≡◌, ◌==◌, ℕ, if◌then◌else◌, List, map, IsTrue, Option, Some, None}
use Rattle.xm_name_index.specs.Names.{NamesOfMember, lookup, reserved}
use Rattle.xm_rules.specs.declared.orders.Stop.{Stop}
use Rattle.xm_stops.specs.Queued.{QueuedStops}

-- how many names of a member are reserved: that of the stop that is to join, if it is the member's
abbrev pub names_ready : Option Stop → ℕ → ℕ
names_ready None member = 0
names_ready (Some s) member = if member == s.member then 1 else 0

-- each stop's name leads to its key, no two have one name, and the name of the stop that is to join is reserved alone
pub record AreStopsIndexed (q : QueuedStops) (names : List (ℕ × NamesOfMember)) : Type 0 where
  pub named : (member reference : ℕ) → lookup names member reference ≡ key_by_name stop_owner stop_reference member reference q.stops
  pub names_reserved : (member : ℕ) → reserved names member ≡ names_ready q.ready member
  pub own : IsTrue (have_own_names stop_owner stop_reference (map listed_item q.stops))
