-- What the queues answer of the active orders: which is the first of some in time or in priority, and which limit is the best.
use Rattle.std.specs.Prelude.{◌≡◌, ℕ, Bool, true, false, ◌&&◌, if◌then◌else◌, ◌+◌, nat_le, nat_lt, List, ◌++◌, Contains, Option, Some, None, option_map}
use Rattle.std.specs.Option.{option_to_list}
use Rattle.xm_ladders.specs.Ladder.{is_within}
use Rattle.xm_slots.specs.Listing.{listed_entry}
use Rattle.xm_slots.specs.declared.entry.Entry.{Entry}
use Rattle.xm_slots.specs.declared.listing.Listed.{Listed}
use Rattle.xm_rules.specs.Active.{is_active}
use Rattle.xm_rules.specs.Orders.{same_kind, same_restriction}
use Rattle.xm_rules.specs.Priority.{is_better, is_prior}
use Rattle.xm_rules.specs.Sides.{best, same_side}
use Rattle.xm_rules.specs.declared.orders.OrderKind.{OrderKind}
use Rattle.xm_rules.specs.declared.orders.OrderKind.TheVariants.{Market, Limit}
use Rattle.xm_rules.specs.declared.orders.Restriction.{Restriction}
use Rattle.xm_rules.specs.declared.orders.Side.{Side}
use Rattle.xm_rules.specs.declared.phases.Phase.{Phase}
use Rattle.xm_rules.specs.declared.orders.Order.{Order}

-- whatever it is
abbrev pub is_any : Listed Order → Bool
is_any x = true

-- of this kind
abbrev pub has_kind : OrderKind → Listed Order → Bool
has_kind kind x = same_kind kind x.item.kind

-- of this kind, and later than a time
abbrev pub has_kind_later : OrderKind → ℕ → Listed Order → Bool
has_kind_later kind time x = same_kind kind x.item.kind && nat_lt time x.time

-- of an order with this limit, or of a market order where there is none
abbrev pub kind_at : Option ℕ → OrderKind
kind_at None = Market
kind_at (Some p) = Limit p

-- a limit that is worse than this one; any limit where there is none
abbrev pub is_worse : Side → Option ℕ → OrderKind → Bool
is_worse side after kind = is_better side (kind_at after) kind

-- with a limit that is worse
abbrev pub has_worse : Side → Option ℕ → Listed Order → Bool
has_worse side after x = is_worse side after x.item.kind

-- a limit above a price, and not above another that is so much higher
abbrev pub is_limited_in : ℕ → ℕ → OrderKind → Bool
is_limited_in low n Market = false
is_limited_in low n (Limit p) = nat_lt low p && nat_le p (low + n)

-- of an order with such a limit
abbrev pub has_limit_in : ℕ → ℕ → Listed Order → Bool
has_limit_in low n x = is_limited_in low n x.item.kind

-- a kind whose limit lies within a bound
abbrev pub is_kind_within : Side → ℕ → OrderKind → Bool
is_kind_within side bound Market = false
is_kind_within side bound (Limit p) = is_within side bound p

-- of an order with such a limit
abbrev pub lies_within : Side → ℕ → Listed Order → Bool
lies_within side bound x = is_kind_within side bound x.item.kind

-- an active order of a side that passes a test
abbrev pub is_on : Phase → Side → (Listed Order → Bool) → Listed Order → Bool
is_on phase side test x = (is_active phase x.item.restriction && same_side side x.item.side) && test x

-- an order of a side and restriction that passes a test, where the restriction is active
abbrev pub is_in : Phase → Side → Restriction → (Listed Order → Bool) → Listed Order → Bool
is_in phase side restriction test x =
    is_active phase restriction && (same_side side x.item.side && (same_restriction restriction x.item.restriction && test x))

-- ahead in time
abbrev pub is_earlier : Listed Order → Listed Order → Bool
is_earlier x y = nat_lt x.time y.time

-- ahead by the limit alone
abbrev pub has_better : Side → Listed Order → Listed Order → Bool
has_better side x y = is_better side x.item.kind y.item.kind

-- ahead in priority, and then in time
abbrev pub goes_ahead : Side → Listed Order → Listed Order → Bool
goes_ahead side x y = is_prior side x.item.kind y.item.kind (nat_lt x.time y.time)

-- an order of a list that passes a test, and that none that passes it is ahead of
pub record IsFirst (ahead : Listed Order → Listed Order → Bool) (passes : Listed Order → Bool) (xs : List (Listed Order)) (first : Listed Order) : Type 0 where
  pub contained : Contains xs first
  pub passing : passes first ≡ true
  pub none : (x : Listed Order) → Contains xs x → passes x ≡ true → ahead x first ≡ false

-- the entry of the first, or none where none passes
abbrev pub IsFirstOf : (Listed Order → Listed Order → Bool) → (Listed Order → Bool) → List (Listed Order) → Option (Entry Order) → Type 0
IsFirstOf ahead passes xs None = (x : Listed Order) → Contains xs x → passes x ≡ false
IsFirstOf ahead passes xs (Some e) = (x : Listed Order) × (e ≡ listed_entry x) × IsFirst ahead passes xs x

-- the kind of the first, or none where none passes
abbrev pub IsKindOfFirst : (Listed Order → Listed Order → Bool) → (Listed Order → Bool) → List (Listed Order) → Option OrderKind → Type 0
IsKindOfFirst ahead passes xs kind = (first : Option (Entry Order)) × IsFirstOf ahead passes xs first × (kind ≡ option_map (λ (e : Entry Order). e.item.kind) first)

-- the best limit of the orders that pass a test, or none where none passes
abbrev pub IsBestOf : Side → (Listed Order → Bool) → List (Listed Order) → Option ℕ → Type 0
IsBestOf side passes xs None = (x : Listed Order) → Contains xs x → passes x ≡ false
IsBestOf side passes xs (Some p) = (x : Listed Order) × (x.item.kind ≡ Limit p) × IsFirst (has_better side) passes xs x

-- the earlier of two entries, where there are two
abbrev pub earlier_of_two : Option (Entry Order) → Option (Entry Order) → Option (Entry Order)
earlier_of_two None second = second
earlier_of_two (Some a) None = Some a
earlier_of_two (Some a) (Some b) = if nat_lt b.time a.time then Some b else Some a

-- the better of two limits, where there are two
abbrev pub better_of_two : Side → Option ℕ → Option ℕ → Option ℕ
better_of_two side first second = best side (option_to_list first ++ option_to_list second)
