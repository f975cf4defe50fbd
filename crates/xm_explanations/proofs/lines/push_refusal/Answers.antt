use Rattle.xm_explanations.proofs.Pushes.{then-others}
use Rattle.xm_explanations.specs.Lines.{reason_text, refusal_text, told_refusal}
use Rattle.xm_texts.proofs.Then.{ok-then}
use Rattle.xm_explanations.proofs.lines.push_refusal.Goals as goal

pub returns : goal.returns
unfolding told_refusal
returns c =
    let note = c.args.note.now in
    ok-then c.push_reason.result c.push_reason.ensures
    (λ e. then-others c.args.text.now.items c.push_refused_as.new.text.items c.push_reason.new.text.items (refusal_text note) (reason_text note) c.in_ok-push_refused_as.ensures e)
