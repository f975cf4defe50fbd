-- The price of a call.
use Rattle.std.specs.Prelude.{ℕ, ◌+◌, ◌-◌, ◌==◌, if◌then◌else◌, nat_lt, nat_le, min, List, [], ◌∷◌, ◌++◌, filter, sum_by, Option, Some, None, unwrap_or}
use Rattle.std.specs.List.{list_all}
use Rattle.xm_ticks.specs.Ranges.{kept_between}
use Rattle.xm_rules.specs.Active.{Positioned, active, limits}
use Rattle.xm_rules.specs.Orders.{accepts}
use Rattle.xm_rules.specs.Sides.{best, opposite}
use Rattle.xm_rules.specs.declared.orders.Order.{Order}
use Rattle.xm_rules.specs.declared.orders.Side.{Side}
use Rattle.xm_rules.specs.declared.orders.Side.TheVariants.{Buy, Sell}
use Rattle.xm_rules.specs.declared.phases.Phase.{Phase}

-- the units of a side's active orders that accept a price: of buys the demand, of sells the supply
abbrev pub accepting : Phase → List Order → Side → ℕ → ℕ
accepting phase orders side x = sum_by (λ (i : Positioned). if accepts side i.order.kind x then i.order.rest else 0) (active phase side orders)

-- the units that can be executed at a price
abbrev pub volume : Phase → List Order → ℕ → ℕ
volume phase orders x = min (accepting phase orders Buy x) (accepting phase orders Sell x)

-- the units that a side has above the other at a price
abbrev pub surplus : Phase → List Order → Side → ℕ → ℕ
surplus phase orders side x = accepting phase orders side x - accepting phase orders (opposite side) x

abbrev pub absolute_surplus : Phase → List Order → ℕ → ℕ
absolute_surplus phase orders x = surplus phase orders Buy x + surplus phase orders Sell x

-- the candidates are the limits of the active orders
abbrev pub candidates : Phase → List Order → List ℕ
candidates phase orders = limits (active phase Buy orders ++ active phase Sell orders)

-- the members of a set at which a number is greatest, and at which it is least
abbrev pub where_greatest : (ℕ → ℕ) → List ℕ → List ℕ
where_greatest f xs = filter (λ x. list_all (λ y. nat_le (f y) (f x)) xs) xs

abbrev pub where_least : (ℕ → ℕ) → List ℕ → List ℕ
where_least f xs = filter (λ x. list_all (λ y. nat_le (f x) (f y)) xs) xs

abbrev pub highest : List ℕ → ℕ
highest xs = unwrap_or (best Buy xs) 0

abbrev pub lowest : List ℕ → ℕ
lowest xs = unwrap_or (best Sell xs) 0

-- the candidates of greatest volume, and of these the ones of least absolute surplus
abbrev pub best_candidates : Phase → List Order → List ℕ
best_candidates phase orders = where_least (absolute_surplus phase orders) (where_greatest (volume phase orders) (candidates phase orders))

-- the price among the best candidates, of which the second list has a surplus of buys and the third one of sells:
-- where only one side has a surplus, the highest or the lowest; else the last price, kept between the lowest and the
-- highest where there is no surplus, and between the highest of the buys' and the lowest of the sells' where there are both
abbrev pub price_among : ℕ → List ℕ → List ℕ → List ℕ → ℕ
price_among last xs [] [] = kept_between (lowest xs) (highest xs) last
price_among last xs (b ∷ bs) [] = highest xs
price_among last xs [] (s ∷ ss) = lowest xs
price_among last xs (b ∷ bs) (s ∷ ss) = kept_between (highest (b ∷ bs)) (lowest (s ∷ ss)) last

abbrev pub chosen_price : Phase → List Order → ℕ → ℕ
chosen_price phase orders last =
    let xs = best_candidates phase orders in
    price_among last xs (filter (λ x. nat_lt 0 (surplus phase orders Buy x)) xs) (filter (λ x. nat_lt 0 (surplus phase orders Sell x)) xs)

abbrev pub with_volume : Phase → List Order → ℕ → Option (ℕ × ℕ)
with_volume phase orders price = Some (price, volume phase orders price)

-- where no order has a limit, the price is the last price; where nothing can be executed at it, or at any limit, there is none
abbrev pub price_from : Phase → List Order → ℕ → List ℕ → Option (ℕ × ℕ)
price_from phase orders last [] = if volume phase orders last == 0 then None else with_volume phase orders last
price_from phase orders last (c ∷ cs) =
    if list_all (λ x. volume phase orders x == 0) (c ∷ cs) then None else with_volume phase orders (chosen_price phase orders last)

-- the price and the volume of a call, where there is a price
abbrev pub auction_price : Phase → List Order → ℕ → Option (ℕ × ℕ)
auction_price phase orders last = price_from phase orders last (candidates phase orders)
