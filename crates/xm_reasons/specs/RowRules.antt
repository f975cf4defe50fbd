-- The rule of a call by passes over the rows of its candidates, beside one row that no other is better than.
use Rattle.std.specs.Prelude.{ℕ, ◌==◌, Bool, ◌&&◌, ◌||◌, if◌then◌else◌, nat_lt, List, [], ◌∷◌, filter, Option, Some, None}
use Rattle.xm_reasons.specs.Candidates.{absolute_surplus_of, surplus_on, volume_of}
use Rattle.xm_reasons.specs.Rules.{is_one_price, prices_of, rule_among}
use Rattle.xm_reasons.specs.declared.candidates.Candidate.{Candidate}
use Rattle.xm_reasons.specs.declared.rules.Group.{Group}
use Rattle.xm_reasons.specs.declared.rules.Group.TheVariants.{OfVolume, OfSurplus, OnSide}
use Rattle.xm_reasons.specs.declared.rules.PriceRule.{PriceRule}
use Rattle.xm_reasons.specs.declared.rules.PriceRule.TheVariants.{NothingExecutable, MostVolume, LeastSurplus, LastPriceBetween}
use Rattle.xm_rules.specs.Auction.{highest, lowest}
use Rattle.xm_rules.specs.Sides.{better}
use Rattle.xm_rules.specs.declared.orders.Side.{Side}
use Rattle.xm_rules.specs.declared.orders.Side.TheVariants.{Buy, Sell}

-- a row has more volume than another, or as much and less surplus
abbrev pub is_preferred_to : Candidate → Candidate → Bool
is_preferred_to other c = nat_lt (volume_of other) (volume_of c) || ((volume_of other == volume_of c) && nat_lt (absolute_surplus_of c) (absolute_surplus_of other))

abbrev pub preferred_of : Option Candidate → Candidate → Candidate
preferred_of None c = c
preferred_of (Some other) c = if is_preferred_to other c then c else other

-- the first row of some that none of them is preferred to
abbrev pub leader_from : Candidate → List Candidate → Candidate
leader_from c [] = c
leader_from c (d ∷ ds) = leader_from (preferred_of (Some c) d) ds

abbrev pub leader_of : List Candidate → Option Candidate
leader_of [] = None
leader_of (c ∷ cs) = Some (leader_from c cs)

abbrev pub is_in_group : Candidate → Group → Candidate → Bool
is_in_group leader OfVolume c = volume_of c == volume_of leader
is_in_group leader OfSurplus c = (volume_of c == volume_of leader) && (absolute_surplus_of c == absolute_surplus_of leader)
is_in_group leader (OnSide side) c = ((volume_of c == volume_of leader) && (absolute_surplus_of c == absolute_surplus_of leader)) && nat_lt 0 (surplus_on side c)

abbrev pub group_prices : Candidate → Group → List Candidate → List ℕ
group_prices leader group rows = prices_of (filter (is_in_group leader group) rows)

-- the better of two prices, where there are two
abbrev pub better_than : Side → Option ℕ → ℕ → ℕ
better_than side None price = price
better_than side (Some p) price = better side p price

abbrev pub between_all : Candidate → List Candidate → PriceRule
between_all leader rows = let xs = group_prices leader OfSurplus rows in LastPriceBetween (lowest xs) (highest xs)

abbrev pub rule_by_surplus : Candidate → List Candidate → PriceRule
rule_by_surplus leader rows =
    rule_among (group_prices leader OfSurplus rows) (group_prices leader (OnSide Buy) rows) (group_prices leader (OnSide Sell) rows)

abbrev pub rule_beside : Candidate → List Candidate → PriceRule
rule_beside leader rows =
    if volume_of leader == 0 then NothingExecutable
    else (if is_one_price (group_prices leader OfVolume rows) then MostVolume
    else (if is_one_price (group_prices leader OfSurplus rows) then LeastSurplus
    else rule_by_surplus leader rows))
