use Rattle.std.proofs.Common.{◌<◌, ◌≤◌, ◌++◌, [], ℕ, List, get_or, length, slice_range, ap, ap₂, sym, arith, ◌∙◌}
use Rattle.std.specs.List.{flat_map}
use Rattle.std.proofs.lemmas.List.{flat_map_more}
use Rattle.xm_threads.proofs.Kept.{range-more}
use Rattle.xm_texts.specs.RowAnswers.{record_line}
use Rattle.xm_threads.proofs.row_texts.push_lines.Goals as goal

pub loop-index-preserved : goal.loop-index-preserved
loop-index-preserved c =
    let lines = c.args.lines.now in
    let begin = c.args.begin in
    let i = c.loop-index.index in
    let line = record_line c.args.row.now c.args.own.now in
    let text = c.args.text.now.items in
    let order : begin ≤ i = omega arith in
    let within : i < length lines = omega arith in
    c.in_ok-push_line.ensures
    ∙ ap₂ (λ (so_far fields : List ℕ). so_far ++ line fields) c.loop-index.invariant c.line.ensures
    ∙ flat_map_more line text (slice_range lines begin i) (get_or lines i [])
    ∙ ap (λ (ls : List (List ℕ)). text ++ flat_map line ls) (sym (range-more lines begin i [] order within))
