-- How the orders of a book stand in their queues.
use Rattle.std.specs.Prelude.{◌≡◌, ◌<◌, ◌≤◌, ℕ, ◌+◌, Bool, true, false, ◌&&◌, List, [], length, filter, sum_by, count_by, Option, None, Some}
use Rattle.std.specs.List.{All}
use Rattle.xm_book.specs.Levels.{at_level}
use Rattle.xm_slots.specs.Listing.{LiesAt, keys_in, rises}
use Rattle.xm_book.specs.Places.{same_place}
use Rattle.xm_slots.specs.Slots.{SlotsView, used}
use Rattle.xm_slots.specs.declared.listing.Listed.{Listed}
use Rattle.xm_book.specs.declared.places.Place.{Place}
use Rattle.xm_book.specs.declared.places.TheConstants.{MAX_PLACES}
use Rattle.xm_ladders.specs.Ladder.{HasKind, HasLevels}
use Rattle.xm_ladders.specs.Ladders.{ladder_on, level_on, side_of}
use Rattle.xm_ladders.specs.declared.ladders.Ladders.{Ladders}
use Rattle.xm_ladders.specs.declared.level.Level.{Level}
use Rattle.xm_queues.specs.Keys.{AreDistinct}
use Rattle.xm_queues.specs.Queue.{IsQueue, key_limit}
use Rattle.xm_queues.specs.declared.links.Link.{Link}
use Rattle.xm_rules.specs.Orders.{same_restriction}
use Rattle.xm_rules.specs.Sides.{same_side}
use Rattle.xm_rules.specs.declared.orders.OrderKind.{OrderKind}
use Rattle.xm_rules.specs.declared.orders.OrderKind.TheVariants.{Market, Limit}
use Rattle.xm_rules.specs.declared.orders.Restriction.{Restriction}
use Rattle.xm_rules.specs.declared.orders.Side.{Side}
use Rattle.xm_rules.specs.declared.orders.Order.{Order}
use Rattle.xm_ticks.specs.declared.numbers.TheConstants.{MAX_QUANTITY}

-- what a caller sees of the queues
pub record QueuedOrders : Type 0 where
  -- the orders in time order
  pub orders : List (Listed Order)
  -- the places that are reserved, in no order
  pub reserved : List Place
  -- how many orders have joined so far
  pub adds : ℕ

abbrev pub is_of_level : Side → Restriction → OrderKind → Listed Order → Bool
is_of_level s r k x = at_level s r k x.item

-- the orders of one level, in time order
abbrev pub orders_of_level : Side → Restriction → OrderKind → List (Listed Order) → List (Listed Order)
orders_of_level s r k xs = filter (is_of_level s r k) xs

abbrev pub units_in : List (Listed Order) → ℕ
units_in xs = sum_by (λ (x : Listed Order). x.item.rest) xs

-- the level has exactly these orders
pub record IsLevelOf (links : List Link) (level : Level) (xs : List (Listed Order)) : Type 0 where
  pub queue : IsQueue links level.ends (keys_in xs)
  pub orders : level.orders ≡ length xs
  pub units : level.units ≡ units_in xs

-- there is no level and no order, or the level has exactly these
abbrev pub HoldsLevel : List Link → Option Level → List (Listed Order) → Type 0
HoldsLevel links None xs = xs ≡ []
HoldsLevel links (Some level) xs = IsLevelOf links level xs

-- the order's kind has room in its ladder
abbrev pub HasItsKind : {A : Type 0} → Ladders A → Listed Order → Type 0
HasItsKind ladders x = HasKind (ladder_on x.item.restriction (side_of x.item.side ladders)) x.item.kind

pub record AreOrdersQueued {A : Type 0} (xs : List (Listed Order)) (entries : SlotsView Order) (links : List Link) (ladders : Ladders A) : Type 0 where
  pub lie : All (LiesAt entries) xs
  pub distinct : AreDistinct (keys_in xs)
  pub count : used entries ≡ length xs
  pub few : length xs ≤ MAX_PLACES
  pub small : All (λ (x : Listed Order). x.item.rest ≤ MAX_QUANTITY) xs
  pub kinds : All (HasItsKind ladders) xs
  pub levels : (s : Side) (r : Restriction) (k : OrderKind) → HoldsLevel links (level_on (side_of s ladders) r k) (orders_of_level s r k xs)
  pub fits : entries.capacity ≤ key_limit links

abbrev pub is_limit_kind : OrderKind → Bool
is_limit_kind Market = false
is_limit_kind (Limit p) = true

-- a place that may take a level of a side and restriction
abbrev pub is_limit_in : Side → Restriction → Place → Bool
is_limit_in side r p = (same_side side p.side && same_restriction r p.restriction) && is_limit_kind p.kind

-- the place's kind has room in its ladder
abbrev pub HasKindOf : {A : Type 0} → Ladders A → Place → Type 0
HasKindOf ladders p = HasKind (ladder_on p.restriction (side_of p.side ladders)) p.kind

-- there is room for an order of each of these places
pub record HasPlaces {A : Type 0} (xs : List (Listed Order)) (ps : List Place) (entries : SlotsView Order) (ladders : Ladders A) : Type 0 where
  pub within : length xs + length ps ≤ MAX_PLACES
  pub entries_room : length xs + length ps ≤ entries.capacity
  pub kinds_room : (p : Place) → 0 < count_by (same_place p) ps → HasKindOf ladders p
  pub levels_room : (s : Side) (r : Restriction) (k : OrderKind) (n : ℕ) → n < count_by (is_limit_in s r) ps → HasLevels (ladder_on r (side_of s ladders)) k (n + 1)

pub record AreOrdersKept {A : Type 0} (xs : List (Listed Order)) (ps : List Place) (adds : ℕ) (entries : SlotsView Order) (links : List Link) (ladders : Ladders A) : Type 0 where
  pub queued : AreOrdersQueued xs entries links ladders
  pub places : HasPlaces xs ps entries ladders
  pub rise : rises 0 xs adds ≡ true
