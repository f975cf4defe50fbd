-- Orders in time order, with their keys and the numbers of their adds.
use Rattle.std.specs.Prelude.{ℕ, ◌==◌, if◌then◌else◌}
use Rattle.xm_rules.specs.declared.orders.Order.{Order}
use Rattle.xm_slots.specs.declared.listing.Listed.{Listed}

-- the name of an order is its member and the member's own reference
abbrev pub order_owner : Order → ℕ
order_owner o = o.member

abbrev pub order_reference : Order → ℕ
order_reference o = o.reference

-- the order with another rest
abbrev pub reduced_to : ℕ → Order → Order
reduced_to rest o = record o { rest = rest }

-- the order of the key has another rest
abbrev pub reduced_at : ℕ → ℕ → Listed Order → Listed Order
reduced_at key rest x = if x.key == key then (let o = x.item in record x { item = record o { rest = rest } }) else x
