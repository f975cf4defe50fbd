-- The calls of the worked examples.
use Rattle.std.specs.Prelude.{ℕ, List, [], ◌∷◌, map}
use Rattle.xm_events.specs.declared.events.PriceRange.{PriceRange}
use Rattle.xm_reasons.specs.Candidates.{candidate_in, descending}
use Rattle.xm_reasons.specs.Rules.{decided_by}
use Rattle.xm_reasons.specs.declared.candidates.Candidate.{Candidate}
use Rattle.xm_reasons.specs.declared.ranges.AskedRange.{AskedRange}
use Rattle.xm_reasons.specs.declared.ranges.RangeAnswer.{RangeAnswer}
use Rattle.xm_reasons.specs.declared.rules.PriceRule.{PriceRule}
use Rattle.xm_rules.specs.Auction.{candidates}
use Rattle.xm_rules.specs.Examples.{buy, order, sell}
use Rattle.xm_rules.specs.declared.orders.Order.{Order}
use Rattle.xm_rules.specs.declared.orders.OrderKind.TheVariants.{Market}
use Rattle.xm_rules.specs.declared.orders.Side.TheVariants.{Buy, Sell}
use Rattle.xm_rules.specs.declared.phases.Auction.TheVariants.{Opening}
use Rattle.xm_rules.specs.declared.phases.CallStage.TheVariants.{Ordinary}
use Rattle.xm_rules.specs.declared.phases.Phase.{Phase}
use Rattle.xm_rules.specs.declared.phases.Phase.TheVariants.{Call}

abbrev pub opening_call : Phase
opening_call = Call Opening Ordinary

-- the rows of an opening call of these orders, and the rule that decides its price with this last price
abbrev pub rows_in_call : List Order → List Candidate
rows_in_call orders = map (candidate_in opening_call orders) (descending (candidates opening_call orders))

abbrev pub rule_of : List Order → ℕ → PriceRule
rule_of orders last = decided_by opening_call orders last

-- a row: price, demand and supply
abbrev pub row : ℕ → ℕ → ℕ → Candidate
row price demand supply = record { price = price; demand = demand; supply = supply }

-- a range with the lowest and the highest price inside
abbrev pub range_of : PriceRange → ℕ → ℕ → ℕ → RangeAnswer → AskedRange
range_of range around low high answer = record { range = range; around = around; low = low; high = high; answer = answer }

-- two limits at which 20 units can be executed, of which the higher one has the smaller surplus
abbrev pub two_surpluses : List Order
two_surpluses = buy 1 102 30 ∷ buy 2 101 10 ∷ sell 1 100 20 ∷ []

-- market orders on both sides, and none with a limit
abbrev pub market_orders : List Order
market_orders = order 0 1 Buy Market 10 ∷ order 1 1 Sell Market 30 ∷ []
