use Rattle.std.proofs.Common.{rules, ◌≡◌, ◌+◌, ◌<◌, ◌∷◌, ℕ, List, drop, get_or, length, map, slice_range, ap, ap₂, subst, sym, arith, ◌∙◌}
use Rattle.std.specs.List.{flat_map}
use Rattle.std.proofs.lemmas.List.{drop_more}
use Rattle.xm_threads.proofs.Kept.{row-lines}
use Rattle.xm_threads.specs.KeptRows.{IsPartOf, KeptRow, part_at, row_of_lines}
use Rattle.xm_threads.specs.Lanes.{TextsView, with_first, with_kept}
use Rattle.xm_texts.specs.RowAnswers.{record_line, with_text}
use Rattle.xm_threads.specs.declared.kept_lines.Span.{Span}
use Rattle.xm_files.specs.RecordTexts.{texts_in}
use Rattle.xm_threads.proofs.kept_rows.KeptRows.tell.Goals as goal

pub returns-clause-told : goal.returns-clause-told
returns-clause-told c =
    let place = c.index-place.result.now in
    let lines = c.self.inside.lines in
    let rows = c.self.inside.rows.items in
    let told = c.self.inside.told in
    let row = c.args.row.now in
    let text = texts_in c.args.texts.now row.line in
    let texts = c.args.told.now in
    let within : told < length rows = omega arith in
    let at : get_or rows told place ≡ place = search rules in
    let part = subst (IsPartOf 3 lines) at (c.self.invariant.parts told place within) in
    let seen = (λ (s : Span). row_of_lines (part_at lines s)) in
    let first : c.args.self.now ≡ seen place ∷ map seen (drop (told + 1) rows) = sym c.self.view_is ∙ ap (map seen) (drop_more rows told place within ∙ ap (λ (s : Span). s ∷ drop (told + 1) rows) at) in
    let trades = slice_range lines (place.begin + 3) place.end in
    c.in_ok-add_trades.ensures.added
    ∙ ap (λ (by_number : ℕ → List ℕ). record c.add_events.new.self { trades = with_text (flat_map (record_line row (by_number row.line)) trades) c.add_events.new.self.trades }) c.add_answer.ensures.texts
    ∙ ap (λ (t : TextsView). record t { trades = with_text (flat_map (record_line row text) trades) t.trades })
    (c.in_ok-add_events.ensures
    ∙ ap₂ (λ (t : TextsView) (events : List ℕ). record t { events = with_text events t.events })
    (c.in_ok-add_levels.ensures
    ∙ ap₂ (λ (t : TextsView) (levels : List ℕ). record t { levels = with_text levels t.levels })
    (c.in_ok-add_answer.ensures.added ∙ ap (λ (answer : List ℕ). record texts { answers = with_text (record_line row text answer) texts.answers }) c.line.ensures)
    c.line-2.ensures)
    c.line-3.ensures)
    ∙ sym (ap (λ (kept : List KeptRow). with_first row text kept texts) first ∙ ap (λ (kept : KeptRow). with_kept row text kept texts) (row-lines lines place part))
