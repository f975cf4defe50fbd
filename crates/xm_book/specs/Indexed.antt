-- How the names of a book's orders lead to their keys.
use Rattle.xm_book.specs.Listing.{order_owner, order_reference}
use Rattle.xm_slots.specs.Listing.{listed_item}
use Rattle.xm_slots.specs.Naming.{key_by_name}
use Rattle.std.specs.Prelude.{◌≡◌, ◌≤◌, ◌==◌, ℕ, Bool, List, map, count_by}
use Rattle.xm_book.specs.Queued.{QueuedOrders}
use Rattle.xm_book.specs.TimeList.{IsBook}
use Rattle.xm_book.specs.declared.places.Place.{Place}
use Rattle.xm_name_index.specs.Names.{NamesOfMember, lookup, reserved}

abbrev pub is_for : ℕ → Place → Bool
is_for member p = p.member == member

-- each order's name leads to its key, and the name of each reserved place is reserved
pub record AreOrdersIndexed (q : QueuedOrders) (names : List (ℕ × NamesOfMember)) : Type 0 where
  pub named : (member reference : ℕ) → lookup names member reference ≡ key_by_name order_owner order_reference member reference q.orders
  pub names_reserved : (member : ℕ) → count_by (is_for member) q.reserved ≤ reserved names member
  pub sound : IsBook (record { orders = map listed_item q.orders; reserved = q.reserved; adds = q.adds })
