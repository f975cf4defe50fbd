use Rattle.std.specs.Prelude.{codes, ◌++◌}
use Rattle.std.proofs.Common.{◌≡◌, ◌∙◌, List, ap}
use Rattle.std.specs.List.{flat_map}
use Rattle.xm_reason_texts.specs.Blocks.{candidate_line, columns_line, last_line, priced_text, range_line, rule_text, title_line}
use Rattle.xm_reason_texts.proofs.Pushes.{behind}
use Rattle.xm_reasons.specs.declared.candidates.Candidate.{Candidate}
use Rattle.xm_reasons.specs.declared.ranges.AskedRange.{AskedRange}
use Rattle.xm_texts.proofs.Then.{ok-then}
use Rattle.xm_reason_texts.proofs.blocks.push_block.Goals as goal

pub returns : goal.returns
returns g c =
    let r = c.args.reasons.now in
    let tick = c.args.tick in
    let old = c.args.text.now.items in
    let t1 = c.push_title.new.text.items in
    let t2 = c.push_text.new.text.items in
    let t3 = c.push_candidates.new.text.items in
    let t4 = c.push_last.new.text.items in
    let t5 = c.push_ranges.new.text.items in
    let t6 = c.push_priced.new.text.items in
    let t7 = c.push_rule.new.text.items in
    let whole = c.push_text-2.new.text.items in
    let title = title_line c.args.security.now c.args.number c.args.moment r.auction r.stage in
    let rows = flat_map (candidate_line tick) r.candidates.items in
    let last = last_line tick r.last in
    let ranges = flat_map (range_line tick) r.ranges.items in
    let price = priced_text tick r.price in
    let rule = rule_text tick r.rule in
    let end = codes "\n\n" in
    let rows_are : t3 ≡ t2 ++ rows = c.in_ok-push_candidates.ensures ∙ ap (λ (rs : List Candidate). t2 ++ flat_map (candidate_line tick) rs) c.deref.ensures.value in
    let ranges_are : t5 ≡ t4 ++ ranges = c.in_ok-push_ranges.ensures ∙ ap (λ (rs : List AskedRange). t4 ++ flat_map (range_line tick) rs) c.deref-2.ensures.value in
    let e1 = c.in_ok-push_title.ensures in
    let e2 = behind old t1 t2 title columns_line e1 c.in_ok-push_text.ensures in
    let e3 = behind old t2 t3 (title ++ columns_line) rows e2 rows_are in
    let e4 = behind old t3 t4 (title ++ columns_line ++ rows) last e3 c.in_ok-push_last.ensures in
    let e5 = behind old t4 t5 (title ++ columns_line ++ rows ++ last) ranges e4 ranges_are in
    let e6 = behind old t5 t6 (title ++ columns_line ++ rows ++ last ++ ranges) price e5 c.in_ok-push_priced.ensures in
    let e7 = behind old t6 t7 (title ++ columns_line ++ rows ++ last ++ ranges ++ price) rule e6 c.in_ok-push_rule.ensures in
    ok-then c.push_text-2.result c.push_text-2.ensures (λ e. behind old t7 whole (title ++ columns_line ++ rows ++ last ++ ranges ++ price ++ rule) end e7 e)
