use Rattle.std.proofs.Common.{◌*◌, ◌∙◌, sym}
use Rattle.xm_ladders.proofs.Summing.{held-same, units-same}
use Rattle.xm_ladders.proofs.ladder.Ladder.reserve.Goals as goal
use Rattle.xm_price_maps.specs.Sums.{places_of}

pub invariant_of-self-in-Limit : goal.invariant_of-self-in-Limit
invariant_of-self-in-Limit g c = record {
  orders = held-same c.self.inside.limits c.reserve-in-Limit.new.self c.reserve-in-Limit.ensures.same c.self.invariant.orders;
  summed = λ width group there.
      c.reserve.ensures.same width group there ∙ c.self.invariant.summed width group there
      ∙ sym (units-same c.self.inside.limits c.reserve-in-Limit.new.self c.reserve-in-Limit.ensures.same (group * places_of width) (places_of width));
}
