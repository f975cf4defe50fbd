use Rattle.std.proofs.Common.{rules, ◌≡◌, ◌++◌, ◌∷◌, [], ℕ, All, Global, List, Vec, false, ap, append-nil, append_assoc, map, sym, subst, ◌∙◌}
use Rattle.std.specs.List.{flat_map}
use Rattle.std.specs.Vec.Iter.{into_iter_items}
use Rattle.std.proofs.lemmas.List.Concat.{flat_map-append}
use Rattle.std.proofs.lemmas.List.Elements.{All-cons}
use Rattle.xm_threads.specs.Sections.{SectionView}
use Rattle.xm_rules.specs.Step.{Journal}
use Rattle.xm_threads.proofs.sections.taken_apart.Goals as goal

pub loop-section-preserved : goal.loop-section-preserved
loop-section-preserved c =
    let rest = into_iter_items c.next.new.self in
    let section = c.in-Some.section in
    let parts = c.in_ok-desk.ensures.parts in
    let desk = c.in_ok-desk.desk in
    let desks = c.loop-section.desks.items in
    let texts = c.loop-section.texts.items in
    let left : into_iter_items c.loop-section.section-iterator ≡ section ∷ rest = search rules in
    let journals = (λ (ss : List SectionView). map (λ (s : SectionView). s.journal) ss) in
    let lines = (λ (ss : List SectionView). flat_map (λ (s : SectionView). s.text) ss) in
    let told = (λ (ts : List (Vec ℕ Global)). flat_map (λ (t : Vec ℕ Global). t.items) ts) in
    let pushed : c.push.new.self.items ≡ desks ++ desk ∷ [] = search rules in
    let added : c.push-in-loop-section.new.self.items ≡ texts ++ c.in_ok-desk.text ∷ [] = search rules in
    record {
      desks =
          ap (λ (ds : List Journal). ds ++ journals rest) pushed ∙ append_assoc desks (desk ∷ []) (journals rest)
          ∙ ap (λ (j : Journal). desks ++ j ∷ journals rest) parts.0 ∙ ap (λ (ss : List SectionView). desks ++ journals ss) (sym left) ∙ c.loop-section.invariant.desks;
      texts =
          ap (λ (t : List ℕ). t ++ lines rest) (ap told added ∙ flat_map-append _ texts (c.in_ok-desk.text ∷ []) ∙ ap (λ (t : List ℕ). told texts ++ t) (append-nil _ ∙ parts.1))
          ∙ append_assoc (told texts) section.text (lines rest) ∙ ap (λ (ss : List SectionView). told texts ++ lines ss) (sym left) ∙ c.loop-section.invariant.texts;
      had_memory = λ all. c.loop-section.invariant.had_memory (subst (All (λ (s : SectionView). s.lacks_memory ≡ false)) (sym left) (All-cons (λ (s : SectionView). s.lacks_memory ≡ false) section rest c.in_ok-desk.ensures.had_memory all));
    }
