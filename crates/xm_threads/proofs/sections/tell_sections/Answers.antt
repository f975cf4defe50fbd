use denote.Param.Send.{sendable}
use Rattle.std.proofs.Common.{rules, ◌≡◌, false, ap, sym, ◌∙◌}
use Rattle.std.proofs.Crossing.{crosses}
use Rattle.xm_threads.proofs.Crosses.{section-send}
use Rattle.xm_threads.specs.Sections.{SectionView, told_section}
use Rattle.xm_threads.proofs.sections.tell_sections.Goals as goal

pub for_each_mut-requires-send-T : goal.for_each_mut-requires-send-T
for_each_mut-requires-send-T g c κs within = search (sendable, crosses, section-send) depth 40

pub returns : goal.returns
returns g c = λ k d inside had.
    let at = (c.for_each_mut.ensures k d inside).1 in
    let did : at.after_call.now.lacks_memory ≡ false → at.after_call.now ≡ told_section c.args.names.now at.argument.now = search (rules, at.call) in
    sym at.left ∙ did (ap (λ (s : SectionView). s.lacks_memory) at.left ∙ had) ∙ ap (told_section c.args.names.now) at.argument_is
