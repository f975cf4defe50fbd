-- The candidates of a call as rows: what accepts each, and in which order they stand.
use Rattle.std.specs.Prelude.{ℕ, ◌+◌, ◌-◌, ◌==◌, Bool, true, ◌&&◌, if◌then◌else◌, min, nat_lt, List, [], ◌∷◌, map, Option, Some, None}
use Rattle.xm_reasons.specs.declared.candidates.Candidate.{Candidate}
use Rattle.xm_rules.specs.Auction.{accepting, candidates}
use Rattle.xm_rules.specs.Sides.{reaches}
use Rattle.xm_rules.specs.State.{State}
use Rattle.xm_rules.specs.declared.orders.Order.{Order}
use Rattle.xm_rules.specs.declared.orders.Side.{Side}
use Rattle.xm_rules.specs.declared.orders.Side.TheVariants.{Buy, Sell}
use Rattle.xm_rules.specs.declared.phases.Phase.{Phase}

-- a price joins others, of which the best of a side stand first, unless it is there
abbrev pub put_in_order : Side → ℕ → List ℕ → List ℕ
put_in_order side p [] = p ∷ []
put_in_order side p (q ∷ qs) = if p == q then q ∷ qs else (if reaches side p q then p ∷ q ∷ qs else q ∷ put_in_order side p qs)

-- the members of a list, each once, the best of a side first
abbrev pub best_first : Side → List ℕ → List ℕ
best_first side [] = []
best_first side (p ∷ ps) = put_in_order side p (best_first side ps)

-- the highest first
abbrev pub descending : List ℕ → List ℕ
descending ps = best_first Buy ps

-- each price is below the one before it
abbrev pub is_falling : List ℕ → Bool
is_falling [] = true
is_falling (p ∷ []) = true
is_falling (p ∷ q ∷ qs) = nat_lt q p && is_falling (q ∷ qs)

-- a price with the units of the buys that accept it, and of the sells
abbrev pub candidate_in : Phase → List Order → ℕ → Candidate
candidate_in phase orders x = record { price = x; demand = accepting phase orders Buy x; supply = accepting phase orders Sell x }

abbrev pub candidate_at : State → ℕ → Candidate
candidate_at s x = candidate_in s.phase s.orders x

-- the candidates of a call with what accepts each, the highest first
abbrev pub candidate_rows : State → List Candidate
candidate_rows s = map (candidate_at s) (descending (candidates s.phase s.orders))

-- the units that can be executed at the price of a row
abbrev pub volume_of : Candidate → ℕ
volume_of c = min c.demand c.supply

-- the units that a side has above the other at it
abbrev pub surplus_on : Side → Candidate → ℕ
surplus_on Buy c = c.demand - c.supply
surplus_on Sell c = c.supply - c.demand

abbrev pub absolute_surplus_of : Candidate → ℕ
absolute_surplus_of c = surplus_on Buy c + surplus_on Sell c

-- the side that has a surplus, with its units
abbrev pub surplus_of : Candidate → Option (Side × ℕ)
surplus_of c =
    if nat_lt c.supply c.demand then Some (Buy, c.demand - c.supply)
    else (if nat_lt c.demand c.supply then Some (Sell, c.supply - c.demand) else None)
