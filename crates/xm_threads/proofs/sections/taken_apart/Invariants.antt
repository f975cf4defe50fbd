use Rattle.std.proofs.Common.{◌≡◌, ◌++◌, All, false, map}
use Rattle.std.specs.List.{flat_map}
use Rattle.std.specs.Vec.Iter.{into_iter_items}
use Rattle.xm_threads.specs.Sections.{SectionView}
use Rattle.xm_threads.proofs.sections.taken_apart.Given as goal

abbrev pub invariant-loop-section : goal.invariant-loop-section
invariant-loop-section l = record {
  desks : l.desks.items ++ map (λ (s : SectionView). s.journal) (into_iter_items l.section-iterator) ≡ map (λ (s : SectionView). s.journal) l.fn.sections.items;
  texts : flat_map (λ text. text.items) l.texts.items ++ flat_map (λ (s : SectionView). s.text) (into_iter_items l.section-iterator) ≡ flat_map (λ (s : SectionView). s.text) l.fn.sections.items;
  had_memory : All (λ (s : SectionView). s.lacks_memory ≡ false) (into_iter_items l.section-iterator) → All (λ (s : SectionView). s.lacks_memory ≡ false) l.fn.sections.items;
}
