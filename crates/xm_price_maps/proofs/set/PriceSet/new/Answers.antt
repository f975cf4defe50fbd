use Rattle.std.proofs.Common.{length, ap}
use Rattle.xm_price_maps.proofs.Members.{sound_none, has_none}
use Rattle.xm_price_maps.proofs.Stored.{word_none, shaped_none}
use Rattle.xm_price_maps.proofs.set.PriceSet.new.Goals as goal

pub invariant_of-result : goal.invariant_of-result
invariant_of-result g c =
    let none = ap length c.new.ensures.items in
    record { sound = sound_none c.new.result.items (word_none c.new.result.items none); shaped = shaped_none c.new.result.items none }

pub returns : goal.returns
returns g c = has_none (record { pages = c.new.result.items }) (word_none c.new.result.items (ap length c.new.ensures.items))
