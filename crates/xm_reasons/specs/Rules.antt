-- The rule that decides the price of a call, told by the cases of the definition of the price; and the price that a rule gives of
-- the rows of the candidates.
use Rattle.std.specs.Prelude.{ℕ, ◌==◌, Bool, if◌then◌else◌, nat_le, nat_lt, List, [], ◌∷◌, filter, map, Option, Some, None}
use Rattle.std.specs.List.{list_all}
use Rattle.xm_reasons.specs.Candidates.{absolute_surplus_of, volume_of}
use Rattle.xm_reasons.specs.declared.candidates.Candidate.{Candidate}
use Rattle.xm_reasons.specs.declared.rules.PriceRule.{PriceRule}
use Rattle.xm_reasons.specs.declared.rules.PriceRule.TheVariants.{NothingExecutable, NoLimit, MostVolume, LeastSurplus, HighestOfBuys, LowestOfSells, LastPriceBetween}
use Rattle.xm_rules.specs.Auction.{best_candidates, candidates, highest, lowest, surplus, volume, where_greatest}
use Rattle.xm_rules.specs.declared.orders.Order.{Order}
use Rattle.xm_rules.specs.declared.orders.Side.TheVariants.{Buy, Sell}
use Rattle.xm_rules.specs.declared.phases.Phase.{Phase}
use Rattle.xm_ticks.specs.Ranges.{kept_between}

-- all of a list are one price
abbrev pub is_one_price : List ℕ → Bool
is_one_price ps = highest ps == lowest ps

-- the rule among the best candidates, of which the second list has a surplus of buys and the third one of sells
abbrev pub rule_among : List ℕ → List ℕ → List ℕ → PriceRule
rule_among xs [] [] = LastPriceBetween (lowest xs) (highest xs)
rule_among xs (b ∷ bs) [] = HighestOfBuys
rule_among xs [] (s ∷ ss) = LowestOfSells
rule_among xs (b ∷ bs) (s ∷ ss) = LastPriceBetween (highest (b ∷ bs)) (lowest (s ∷ ss))

-- one candidate of greatest volume decides, or else one of least surplus of them, or else their surpluses
abbrev pub chosen_by : Phase → List Order → PriceRule
chosen_by phase orders =
    let xs = best_candidates phase orders in
    if is_one_price (where_greatest (volume phase orders) (candidates phase orders)) then MostVolume
    else (if is_one_price xs then LeastSurplus
    else rule_among xs (filter (λ x. nat_lt 0 (surplus phase orders Buy x)) xs) (filter (λ x. nat_lt 0 (surplus phase orders Sell x)) xs))

-- where no order has a limit, it is that, unless nothing can be executed at the last price; nor can it be at any limit
abbrev pub rule_from : Phase → List Order → ℕ → List ℕ → PriceRule
rule_from phase orders last [] = if volume phase orders last == 0 then NothingExecutable else NoLimit
rule_from phase orders last (c ∷ cs) = if list_all (λ x. volume phase orders x == 0) (c ∷ cs) then NothingExecutable else chosen_by phase orders

-- the rule that decides the price of a call
abbrev pub decided_by : Phase → List Order → ℕ → PriceRule
decided_by phase orders last = rule_from phase orders last (candidates phase orders)

-- ---- the price that a rule gives

abbrev pub prices_of : List Candidate → List ℕ
prices_of rows = map (λ (c : Candidate). c.price) rows

-- the rows of greatest volume, and of these the ones of least surplus
abbrev pub rows_of_most_volume : List Candidate → List Candidate
rows_of_most_volume rows = filter (λ (c : Candidate). list_all (λ (d : Candidate). nat_le (volume_of d) (volume_of c)) rows) rows

abbrev pub rows_of_least_surplus : List Candidate → List Candidate
rows_of_least_surplus rows = filter (λ (c : Candidate). list_all (λ (d : Candidate). nat_le (absolute_surplus_of c) (absolute_surplus_of d)) rows) rows

abbrev pub best_rows : List Candidate → List Candidate
best_rows rows = rows_of_least_surplus (rows_of_most_volume rows)

-- the price that a rule gives of the candidates and the last price
abbrev pub price_by : PriceRule → List Candidate → ℕ → Option ℕ
price_by NothingExecutable rows last = None
price_by NoLimit rows last = Some last
price_by MostVolume rows last = Some (highest (prices_of (rows_of_most_volume rows)))
price_by LeastSurplus rows last = Some (highest (prices_of (best_rows rows)))
price_by HighestOfBuys rows last = Some (highest (prices_of (best_rows rows)))
price_by LowestOfSells rows last = Some (lowest (prices_of (best_rows rows)))
price_by (LastPriceBetween low high) rows last = Some (kept_between low high last)
