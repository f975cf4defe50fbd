use Rattle.std.specs.Fmt.{decimal}
use Rattle.std.specs.Prelude.{codes}
use Rattle.xm_explanations.proofs.Pushes.{then-others}
use Rattle.xm_texts.proofs.Then.{ok-then}
use Rattle.xm_explanations.specs.Lines.{accepted_text, refused_text}
use Rattle.xm_explanations.proofs.lines.push_report.Goals as goal

pub returns : goal.returns
returns c =
    let report = c.args.report.now in
    let old = c.args.text.now.items in
    let first = c.push_accepted.new.text.items in
    let second = c.push_number.new.text.items in
    let whole = c.push_text.new.text.items in
    ok-then c.push_text.result c.push_text.ensures
    (λ e. then-others old first whole (accepted_text report.accepted) (refused_text report.refused) c.in_ok-push_accepted.ensures
    (then-others first second whole (decimal report.refused) (codes " refused\n") c.in_ok-push_number.ensures e))
