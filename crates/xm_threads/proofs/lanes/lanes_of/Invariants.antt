use Rattle.std.proofs.Common.{◌≡◌, ◌++◌, map}
use Rattle.std.specs.Vec.Iter.{into_iter_items}
use Rattle.xm_threads.specs.Lanes.{fresh_lane}
use Rattle.xm_threads.proofs.lanes.lanes_of.Given as goal

abbrev pub invariant-loop-desk : goal.invariant-loop-desk
invariant-loop-desk l = l.lanes.items ++ map (fresh_lane l.asked) (into_iter_items l.desk-iterator) ≡ map (fresh_lane l.asked) l.fn.desks.items
