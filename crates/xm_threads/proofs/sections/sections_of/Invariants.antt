use Rattle.std.proofs.Common.{◌≡◌, ◌+◌, ◌++◌, length}
use Rattle.std.specs.Vec.Iter.{into_iter_items}
use Rattle.xm_threads.specs.Sections.{blank_sections}
use Rattle.xm_threads.proofs.sections.sections_of.Given as goal

abbrev pub invariant-loop-desk : goal.invariant-loop-desk
invariant-loop-desk l = record {
  all : l.sections.items ++ blank_sections l.index (into_iter_items l.desk-iterator) ≡ blank_sections 0 l.fn.desks.items;
  count : l.index + length (into_iter_items l.desk-iterator) ≡ l.most;
}
