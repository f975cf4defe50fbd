use Rattle.std.proofs.Common.{◌<◌, List, length, subst, arith}
use Rattle.std.proofs.lemmas.List.{take_all}
use Rattle.xm_threads.proofs.Apart.{rows-taken-more}
use Rattle.xm_threads.specs.Lanes.{TookOwnRows}
use Rattle.xm_config.specs.declared.rows.Row.{Row}
use Rattle.xm_threads.proofs.lanes.take_part.Goals as goal

pub loop-row-preserved : goal.loop-row-preserved
loop-row-preserved c =
    let within : c.loop-row.row-index < length c.args.rows.now = omega arith in
    rows-taken-more c.args.names.now c.args.first c.args.lanes.now c.args.rows.now c.loop-row.row-index _ c.loop-row.lanes c.take_row.new.lanes within c.loop-row.auto.lanes c.loop-row.invariant c.take_row.ensures

pub returns : goal.returns
returns c =
    subst (λ (rows : List Row). TookOwnRows c.args.names.now c.args.first c.args.lanes.now rows c.loop-row.lanes) (take_all c.loop-row.row-index c.args.rows.now (omega arith)) c.loop-row.invariant
