use Rattle.std.specs.Prelude.{◌++◌, ℕ, List}
use Rattle.std.proofs.Common.{◌≡◌, ◌∙◌, ap}
use Rattle.xm_reason_texts.specs.Rows.{row_start, call_rows}
use Rattle.xm_texts.proofs.Then.{ok-then}
use Rattle.xm_reason_texts.proofs.rows.push_rows.Goals as goal

pub returns : goal.returns
returns g c =
    let r = c.args.reasons.now in
    let start_is : c.deref.result.now ≡ row_start c.args.security.now c.args.number r.auction r.stage =
    c.deref.ensures.value ∙ c.in_ok-push_start.ensures ∙ ap (λ (l : List ℕ). l ++ row_start c.args.security.now c.args.number r.auction r.stage) c.new-start.ensures.items in
    ok-then c.push_rows_from.result c.push_rows_from.ensures (λ e. e ∙ ap (λ (l : List ℕ). c.args.text.now.items ++ call_rows l c.args.tick r) start_is)
