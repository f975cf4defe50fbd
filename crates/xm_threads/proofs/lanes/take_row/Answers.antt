use Rattle.std.proofs.Common.{◌≡◌, ◌+◌, ◌-◌, arith}
use Rattle.xm_threads.proofs.Apart.{lane-taken, row-passed}
use Rattle.xm_threads.proofs.lanes.take_row.Goals as goal

pub returns-then-place-lanes : goal.returns-then-place-lanes
returns-then-place-lanes c =
    let place = c.args.row.now.security - c.args.first in
    let is : c.args.row.now.security ≡ c.args.first + place = omega arith in
    lane-taken c.args.names.now c.args.first c.args.lanes.now c.args.row.now place c.index-lanes-place.result c.take.new.self is c.if-place-lanes.true c.take.ensures

pub returns-else-place-lanes : goal.returns-else-place-lanes
returns-else-place-lanes c = row-passed c.args.names.now c.args.first c.args.lanes.now c.args.row.now (λ k inside same. absurd (omega arith))

pub returns-else-first-index : goal.returns-else-first-index
returns-else-first-index c = row-passed c.args.names.now c.args.first c.args.lanes.now c.args.row.now (λ k inside same. absurd (omega arith))
