use Rattle.xm_price_maps.proofs.Leveled.{empty-lies, level-nowhere}
use Rattle.xm_price_maps.proofs.levels.Levels.new.Goals as goal

pub invariant_of-result : goal.invariant_of-result
invariant_of-result g c = empty-lies c.new.result c.new-2.result c.new-3.result c.new.ensures c.new-2.ensures

pub returns : goal.returns
returns g c = level-nowhere c.new.result c.new-2.result c.new-3.result c.new-2.ensures
