use Rattle.std.specs.Fmt.{decimal}
use Rattle.std.specs.Prelude.{codes, ◌++◌}
use Rattle.xm_explanations.proofs.Pushes.{then-others}
use Rattle.xm_texts.proofs.Then.{ok-then}
use Rattle.xm_explanations.proofs.lines.push_accepted.Goals as goal

pub returns : goal.returns
returns c =
    let old = c.args.text.now.items in
    let first = c.push_text.new.text.items in
    let second = c.push_number.new.text.items in
    let whole = c.push_text-2.new.text.items in
    let rows = decimal c.args.rows in
    let end = codes " rows accepted, " in
    ok-then c.push_text-2.result c.push_text-2.ensures
    (λ e. then-others old first whole (codes "no mistake: ") (rows ++ end) c.in_ok-push_text.ensures (then-others first second whole rows end c.in_ok-push_number.ensures e))
