use Rattle.std.proofs.Common.{◌*◌, ◌∙◌, sym}
use Rattle.xm_ladders.proofs.Summing.{units-of-nothing, nothing-held}
use Rattle.xm_ladders.proofs.ladder.Ladder.new.Goals as goal
use Rattle.xm_price_maps.specs.Sums.{places_of}
use Rattle.xm_rules.specs.declared.orders.OrderKind.TheVariants.{Market, Limit}

pub invariant_of-result : goal.invariant_of-result
invariant_of-result g c = record {
  orders = nothing-held c.new.result c.new.ensures;
  summed = λ width group there. c.new-2.ensures width group ∙ sym (units-of-nothing c.new.result c.new.ensures (group * places_of width) (places_of width));
}

pub returns : goal.returns
returns g c Market = (c.empty.ensures.queue, (c.empty.ensures.orders, c.empty.ensures.units))
returns g c (Limit p) = rw (c.new.ensures p) tt
