use Rattle.std.proofs.Common.{◌≡◌, ◌++◌, ◌≤◌, length, map}
use Rattle.std.specs.Vec.{vec_capacity}
use Rattle.std.specs.Vec.Iter.{into_iter_items}
use Rattle.xm_segment.proofs.opened.boxed.Given as goal

abbrev pub invariant-loop-desk : goal.invariant-loop-desk
invariant-loop-desk l = record {
  all : map (λ desk. desk.value) l.boxes.items ++ into_iter_items l.desk-iterator ≡ l.fn.desks.items;
  room : length l.fn.desks.items ≤ vec_capacity l.boxes;
}
