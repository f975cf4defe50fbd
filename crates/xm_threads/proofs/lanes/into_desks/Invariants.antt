use Rattle.std.proofs.Common.{◌≡◌, ◌++◌, All, false, map}
use Rattle.std.specs.Vec.Iter.{into_iter_items}
use Rattle.xm_threads.specs.Lanes.{LaneView}
use Rattle.xm_threads.proofs.lanes.into_desks.Given as goal

abbrev pub invariant-loop-lane : goal.invariant-loop-lane
invariant-loop-lane l = record {
  desks : l.desks.items ++ map (λ (v : LaneView). v.journal) (into_iter_items l.lane-iterator) ≡ map (λ (v : LaneView). v.journal) l.fn.lanes.items;
  had_memory : All (λ (v : LaneView). v.lacks_memory ≡ false) (into_iter_items l.lane-iterator) → All (λ (v : LaneView). v.lacks_memory ≡ false) l.fn.lanes.items;
}
