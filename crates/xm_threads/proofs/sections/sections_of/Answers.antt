use Rattle.std.proofs.Common.{rules, ◌≡◌, ◌+◌, ◌++◌, ◌∷◌, [], ℕ, List, append_assoc, length, ap, arith, sym, ◌∙◌}
use Rattle.std.specs.Vec.Iter.{into_iter_items}
use Rattle.xm_threads.specs.Sections.{SectionView, blank_section, blank_sections}
use Rattle.xm_rules.specs.Step.{Journal}
use Rattle.xm_threads.proofs.sections.sections_of.Goals as goal

pub loop-desk-preserved : goal.loop-desk-preserved
loop-desk-preserved c =
    let rest = into_iter_items c.next.new.self in
    let sections = c.loop-desk.sections.items in
    let index = c.loop-desk.index in
    let left : into_iter_items c.loop-desk.desk-iterator ≡ c.in-Some.desk ∷ rest = search rules in
    let pushed : c.push.new.self.items ≡ sections ++ c.of.result ∷ [] = search rules in
    let count = ap length left in
    let next : c.min-index.result ≡ index + 1 = omega (arith, count, c.loop-desk.invariant.count, c.min-index.ensures, c.saturating_add.ensures) in
    record {
      all =
          ap (λ (ss : List SectionView). ss ++ blank_sections c.min-index.result rest) pushed ∙ append_assoc sections (c.of.result ∷ []) (blank_sections c.min-index.result rest)
          ∙ ap (λ (s : SectionView). sections ++ s ∷ blank_sections c.min-index.result rest) c.of.ensures ∙ ap (λ (n : ℕ). sections ++ blank_section index c.in-Some.desk ∷ blank_sections n rest) next
          ∙ ap (λ (js : List Journal). sections ++ blank_sections index js) (sym left) ∙ c.loop-desk.invariant.all;
      count = omega (arith, count, next, c.loop-desk.invariant.count);
    }
