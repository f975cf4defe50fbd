use Rattle.std.proofs.Common.{ℕ, ◌++◌, ◌∙◌, codes, map, slice_get, ap}
use Rattle.std.specs.Fmt.{decimal}
use Rattle.xm_texts.proofs.Tells.{line-parts}
use Rattle.xm_texts.specs.RowAnswers.{quoted_field, security_fields}
use Rattle.xm_rules.specs.Step.{replay}
use Rattle.xm_texts.proofs.answers.push_answer.Goals as goal

pub returns : goal.returns
returns g c =
    let row = c.args.row.now in
    line-parts c.args.text.now.items c.push_number.new.text.items c.push_comma.new.text.items c.push_security.new.text.items c.push_comma-2.new.text.items c.push_field.new.text.items c.push_line_feed.new.text.items
    (decimal row.line) (codes ",") (security_fields c.args.names.now row c.args.answer (slice_get (map replay c.args.desks.now) row.security)) (codes ",") (quoted_field c.args.own.now) (codes "\n")
    (c.in_ok-push_number.ensures ∙ ap (λ (n : ℕ). c.args.text.now.items ++ decimal n) c.from.ensures) c.in_ok-push_comma.ensures c.in_ok-push_security.ensures c.in_ok-push_comma-2.ensures c.in_ok-push_field.ensures c.in_ok-push_line_feed.ensures
