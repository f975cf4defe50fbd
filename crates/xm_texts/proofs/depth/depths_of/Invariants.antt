use Rattle.std.proofs.Common.{◌≡◌, map, take}
use Rattle.xm_texts.specs.MarketDepth.{market_depth}
use Rattle.xm_rules.specs.Step.{replay}
use Rattle.xm_texts.proofs.depth.depths_of.Given as goal

abbrev pub invariant-loop-desk : goal.invariant-loop-desk
invariant-loop-desk g l = l.depths.items ≡ map market_depth (map replay (take l.desk-index l.desks))
