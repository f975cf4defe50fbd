use Rattle.std.proofs.Common.{◌≡◌, All, List, false, length, map, ap, arith, subst, ◌∙◌}
use Rattle.std.specs.List.{flat_map}
use Rattle.xm_config.proofs.Days.{lent_back}
use Rattle.xm_texts.proofs.Then.{if_ok-both}
use Rattle.xm_threads.proofs.Sectioned.{all-lines, map-each, same-journals}
use Rattle.xm_threads.specs.Sections.{SectionView, SectionsTold, blank_sections, told_section}
use Rattle.xm_files.specs.Names.{NameLists}
use Rattle.xm_rules.specs.Step.{Journal}
use Rattle.xm_threads.proofs.sections.security_texts.Goals as goal

-- where none lacked memory
all-told : (names : NameLists) (desks : List Journal) (old new kept : List SectionView) → old ≡ blank_sections 0 desks → length new ≡ length old → SectionsTold names old new → kept ≡ new → All (λ (s : SectionView). s.lacks_memory ≡ false) kept
    → kept ≡ map (told_section names) (blank_sections 0 desks)
all-told names desks old new kept blank long told same had =
    let had_memory = subst (All (λ (s : SectionView). s.lacks_memory ≡ false)) same had in
    same ∙ map-each (told_section names) old new long (λ k d inside. told k d inside (had_memory k d (omega (arith, long, inside)))) ∙ ap (map (told_section names)) blank

pub returns-clause-desks : goal.returns-clause-desks
returns-clause-desks g c =
    let names = c.args.names.now in
    let desks = c.args.desks.items in
    let old = c.in_ok-sections.sections in
    let new = c.tell_sections.new.sections in
    let lent = lent_back new old.items old.len (c.tell_sections.auto.sections ∙ ap length c.as_mut_slice.ensures.value) old.ok.0 in
    let blank = c.as_mut_slice.ensures.value ∙ c.in_ok-sections.ensures.blank in
    if_ok-both c.taken_apart.result c.taken_apart.ensures.desks c.taken_apart.ensures.had_memory
    (λ made is had. is ∙ ap (map (λ (s : SectionView). s.journal)) (all-told names desks c.as_mut_slice.result.now new _ blank c.tell_sections.auto.sections c.tell_sections.ensures lent had) ∙ same-journals names 0 desks)

pub returns-clause-texts : goal.returns-clause-texts
returns-clause-texts g c =
    let names = c.args.names.now in
    let desks = c.args.desks.items in
    let old = c.in_ok-sections.sections in
    let new = c.tell_sections.new.sections in
    let lent = lent_back new old.items old.len (c.tell_sections.auto.sections ∙ ap length c.as_mut_slice.ensures.value) old.ok.0 in
    let blank = c.as_mut_slice.ensures.value ∙ c.in_ok-sections.ensures.blank in
    if_ok-both c.taken_apart.result c.taken_apart.ensures.texts c.taken_apart.ensures.had_memory
    (λ made is had. is ∙ ap (flat_map (λ (s : SectionView). s.text)) (all-told names desks c.as_mut_slice.result.now new _ blank c.tell_sections.auto.sections c.tell_sections.ensures lent had) ∙ all-lines names 0 desks)
