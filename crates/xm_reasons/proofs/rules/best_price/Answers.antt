use Rattle.std.proofs.Common.{Option, Some, ap, sym, ◌∙◌, List, take, ℕ}
use Rattle.xm_reasons.specs.RowRules.{better_than, group_prices}
use Rattle.xm_reasons.specs.declared.candidates.Candidate.{Candidate}
use Rattle.xm_reasons.proofs.Passing.{best-in, best-out, taken-one}
use Rattle.xm_reasons.proofs.rules.best_price.Goals.{then-has, else-has}
use Rattle.xm_rules.specs.Sides.{best}
use Rattle.xm_reasons.proofs.rules.best_price.Goals as goal

pub loop-row-preserved : goal.loop-row-preserved
loop-row-preserved c =
    let row = c.row-item.result in
    let rows = c.args.rows.now in
    let k = c.loop-row.row-index in
    let one = taken-one rows k row c.loop-row-test.true c.row-item.is in
    let side = c.args.side in
    let leader = c.args.leader.now in
    let group = c.args.group in
    elim c.if-has.branch [
      | then-has w ↦ w.best-is ∙ ap (λ (p : ℕ). Some p) (w.better.ensures ∙ ap (λ (o : Option ℕ). better_than side o row.price) c.loop-row.invariant)
          ∙ sym (best-in leader group (take k rows) row side (sym c.has.ensures ∙ w.if-has.true)) ∙ ap (λ (rs : List Candidate). best side (group_prices leader group rs)) (sym one)
      | else-has w ↦ w.best-is ∙ c.loop-row.invariant ∙ sym (best-out leader group (take k rows) row side (sym c.has.ensures ∙ w.if-has.false))
          ∙ ap (λ (rs : List Candidate). best side (group_prices leader group rs)) (sym one)
    ]
