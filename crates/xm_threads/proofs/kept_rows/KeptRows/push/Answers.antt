use Rattle.std.proofs.Common.{rules, ◌≡◌, ◌+◌, ◌++◌, ◌∷◌, [], ℕ, List, All, Some, drop, length, map, ap, arith, subst, sym, ◌∙◌}
use Rattle.std.proofs.lemmas.List.{length-append}
use Rattle.xm_threads.proofs.Kept.{parts-more, parts-push, four-pushed}
use Rattle.xm_threads.specs.KeptRows.{IsPartOf, KeptRow, part_at, row_of_lines}
use Rattle.xm_threads.specs.Lanes.{if_asked}
use Rattle.xm_texts.specs.MarketDepth.{change_lines}
use Rattle.xm_texts.specs.RowAnswers.{security_fields}
use Rattle.xm_texts.specs.RowTrades.{row_trades}
use Rattle.xm_rules.specs.Step.{replay}
use Rattle.xm_threads.specs.declared.kept_lines.Span.{Span}
use Rattle.xm_threads.proofs.kept_rows.KeptRows.push.Goals as goal

pub returns : goal.returns
returns c =
    let lines = c.self.inside.lines in
    let rows = c.self.inside.rows.items in
    let span : Span = record { begin = c.len-begin.result; end = c.len-end.result } in
    let added = four-pushed lines c.keep_answer.new.lines c.keep_levels.new.lines c.keep_events.new.lines c.keep_trades.new.lines _ _ _ _ c.in_ok-keep_answer.ensures.kept c.in_ok-keep_levels.ensures.kept c.in_ok-keep_events.ensures.kept c.in_ok-keep_trades.ensures.kept in
    let pushed : c.push.new.self.items ≡ rows ++ span ∷ [] = search rules in
    let desk = replay c.args.desk.now in
    let names = c.args.names.now in
    let row = c.args.row.now in
    let asked = c.args.asked in
    let more =
    if_asked asked.answers (security_fields names row c.args.answer.now (Some desk))
    ∷ if_asked asked.depth (change_lines names row desk.settings.tick c.args.before.now c.args.after.now)
    ∷ if_asked asked.events c.args.events.now
    ∷ if_asked asked.trades (row_trades names row c.args.answer.now (Some desk)) in
    let ends : c.len-end.result ≡ length lines + length more = c.len-end.ensures ∙ ap (λ (ls : List (List ℕ)). length ls) added ∙ length-append lines more in
    ap (λ (ls : List (List ℕ)). map (λ (s : Span). row_of_lines (part_at ls s)) (drop c.self.inside.told c.push.new.self.items)) added
    ∙ ap (λ (ss : List Span). map (λ (s : Span). row_of_lines (part_at (lines ++ more) s)) (drop c.self.inside.told ss)) pushed
    ∙ parts-push row_of_lines 3 lines more rows c.self.inside.told span c.self.invariant.parts c.self.invariant.told c.len-begin.ensures ends
    ∙ ap (λ (kept : List KeptRow). kept ++ row_of_lines more ∷ []) c.self.view_is

pub invariant_of-self-2 : goal.invariant_of-self-2
invariant_of-self-2 c =
    let lines = c.self.inside.lines in
    let rows = c.self.inside.rows.items in
    let span : Span = record { begin = c.len-begin.result; end = c.len-end.result } in
    let pushed : c.push.new.self.items ≡ rows ++ span ∷ [] = search rules in
    let one = ap (λ (ls : List (List ℕ)). length ls) c.in_ok-keep_answer.ensures.kept ∙ length-append lines (_ ∷ []) in
    let two = ap (λ (ls : List (List ℕ)). length ls) c.in_ok-keep_levels.ensures.kept ∙ length-append c.keep_answer.new.lines (_ ∷ []) in
    let three = ap (λ (ls : List (List ℕ)). length ls) c.in_ok-keep_events.ensures.kept ∙ length-append c.keep_levels.new.lines (_ ∷ []) in
    let four = c.in_ok-keep_trades.ensures.more in
    let last : IsPartOf 3 c.keep_trades.new.lines span = record { order = omega (arith, one, two, three, four, c.len-begin.ensures, c.len-end.ensures); within = omega (arith, c.len-end.ensures) } in
    record {
      parts = subst (All (IsPartOf 3 c.keep_trades.new.lines)) (sym pushed) (parts-more 3 lines c.keep_trades.new.lines rows span (omega (arith, one, two, three, four)) c.self.invariant.parts last);
      told = omega (arith, c.self.invariant.told, ap (λ (ss : List Span). length ss) pushed, length-append rows (span ∷ []));
    }
