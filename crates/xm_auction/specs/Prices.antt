-- The price of a call, from the best candidates at which each side covers the other.
use Rattle.std.specs.Prelude.{◌≡◌, ℕ, ◌==◌, Bool, ◌&&◌, ◌||◌, if◌then◌else◌, nat_lt, List, [], Option, Some, None}
use Rattle.xm_auction.specs.declared.covered.Covered.{Covered}
use Rattle.xm_rules.specs.Auction.{auction_price, candidates}
use Rattle.xm_rules.specs.declared.orders.Order.{Order}
use Rattle.xm_rules.specs.declared.phases.Phase.{Phase}

-- more volume, or as much and less surplus
abbrev pub is_preferred : Covered → Covered → Bool
is_preferred c d = nat_lt d.volume c.volume || (c.volume == d.volume && nat_lt c.surplus d.surplus)

-- a price with its volume, where there is any
abbrev pub executed : ℕ × ℕ → Option (ℕ × ℕ)
executed found = if found.1 == 0 then None else Some found

-- the price with its volume is that of the call, if anything can be executed at it; where there is none, no active order
-- has a limit
abbrev pub IsPriceOfCall : Phase → List Order → ℕ → Option (ℕ × ℕ) → Type 0
IsPriceOfCall phase orders last None = candidates phase orders ≡ []
IsPriceOfCall phase orders last (Some found) = executed found ≡ auction_price phase orders last
