use Rattle.std.proofs.Common.{◌∙◌, List, map, ap, arith}
use Rattle.std.proofs.lemmas.List.{take_all}
use Rattle.xm_texts.proofs.Feeding.{depths-more}
use Rattle.xm_texts.specs.MarketDepth.{market_depth}
use Rattle.xm_rules.specs.Step.{Journal, replay}
use Rattle.xm_texts.proofs.depth.depths_of.Goals as goal

pub loop-desk-preserved : goal.loop-desk-preserved
loop-desk-preserved g c =
    depths-more c.args.desks.now c.loop-desk.desk-index _ c.of.result c.loop-desk.depths.items c.push.new.self.items (omega arith) c.desk-item.is c.of.ensures c.loop-desk.invariant c.in_ok-push.ensures.items

pub returns : goal.returns
returns g c =
    c.loop-desk.invariant ∙ ap (λ (js : List Journal). map market_depth (map replay js)) (take_all c.loop-desk.desk-index c.args.desks.now (omega arith))
