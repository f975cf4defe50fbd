-- What a caller sees of a book.
use Rattle.std.specs.Prelude.{◌≡◌, ◌≤◌, ℕ, ◌+◌, Bool, ◌==◌, IsTrue, List, ◌∷◌, length, filter, map}
use Rattle.std.specs.List.{list_any, list_all}
use Rattle.xm_book.specs.Listing.{order_owner, order_reference}
use Rattle.xm_book.specs.Places.{SamePlaces, same_place}
use Rattle.xm_book.specs.declared.places.Place.{Place}
use Rattle.xm_book.specs.declared.places.TheConstants.{MAX_PLACES}
use Rattle.xm_rules.specs.Commands.{is_in_range}
use Rattle.xm_rules.specs.Orders.{is_named}
use Rattle.xm_rules.specs.declared.orders.Order.{Order}
use Rattle.xm_slots.specs.Naming.{have_own_names}

pub record TimeList : Type 0 where
  -- the live orders in time order
  pub orders : List Order
  -- the places that are reserved, in no order
  pub reserved : List Place
  -- how many orders were added so far
  pub adds : ℕ

-- what every book keeps: each order has a name of its own and a rest in range, and there are no more than `MAX_PLACES` orders
-- and reserved places together
pub record IsBook (l : TimeList) : Type 0 where
  pub names : IsTrue (have_own_names order_owner order_reference l.orders)
  pub rests : IsTrue (list_all (λ (o : Order). is_in_range o.rest) l.orders)
  pub within : length l.orders + length l.reserved ≤ MAX_PLACES

abbrev pub is_reserved : Place → TimeList → Bool
is_reserved place l = list_any (same_place place) l.reserved

-- the second book is the first with one more reserved place
pub record Reserves (place : Place) (old new : TimeList) : Type 0 where
  pub rest : new ≡ record old { reserved = new.reserved }
  pub places : SamePlaces new.reserved (place ∷ old.reserved)

abbrev pub is_known : ℕ → ℕ → TimeList → Bool
is_known member reference l = list_any (is_named member reference) l.orders
