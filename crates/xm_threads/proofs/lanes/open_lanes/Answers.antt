use Rattle.std.proofs.Common.{map, ap, ◌∙◌}
use Rattle.xm_threads.proofs.Apart.{unopened-if_memory}
use Rattle.xm_threads.specs.Lanes.{fresh_lane}
use Rattle.xm_threads.proofs.lanes.open_lanes.Goals as goal

pub returns : goal.returns
returns c = (c.in_ok-desks.ensures.sound, c.in_ok-lanes.ensures ∙ ap (map (fresh_lane c.args.asked)) c.in_ok-desks.ensures.opened)

pub returns-in_err-lanes : goal.returns-in_err-lanes
returns-in_err-lanes c = unopened-if_memory _ c.args.asked c.args.config.now c.from_residual-in_err-lanes.result c.from_residual-in_err-lanes.ensures.1 c.in_ok-desks.ensures.sound
