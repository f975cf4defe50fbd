use Rattle.std.proofs.Common.{◌≡◌, ◌++◌, List, ℕ, Option, None, Err, ap, ap₂, ◌∙◌}
use Rattle.xm_texts.proofs.Tells.{with_text-nil}
use Rattle.xm_texts.proofs.Then.{ok-then}
use Rattle.xm_texts.specs.RowAnswers.{record_line, unknown_fields, with_text}
use Rattle.xm_files.specs.RecordTexts.{texts_in}
use Rattle.xm_texts.specs.RowEvents.{row_events}
use Rattle.xm_threads.specs.Lanes.{TextsView}
use Rattle.xm_rules.specs.declared.replies.Refusal.TheVariants.{UnknownSecurity}
use Rattle.xm_threads.proofs.row_texts.RowTexts.add_unknown.Goals as goal

pub returns-clause-added : goal.returns-clause-added
returns-clause-added c =
    let row = c.args.row.now in
    let old = c.add_refused.new.self in
    let first = c.args.self.now in
    let text = texts_in c.args.texts.now row.line in
    let unknown = unknown_fields (Err UnknownSecurity) in
    let fields : c.as_slice.result.now ≡ unknown = c.as_slice.ensures.value ∙ c.in_ok-push_unknown.ensures ∙ ap (λ (begun : List ℕ). begun ++ unknown) c.new-fields.ensures.items in
    ok-then c.add_answer.result c.add_answer.ensures.added (λ added.
    added
    ∙ ap (λ (fs : List ℕ). record old { answers = with_text (record_line row text fs) old.answers }) fields
    ∙ ap (λ (t : TextsView). record t { answers = with_text (record_line row text unknown) t.answers }) c.in_ok-add_refused.ensures
    ∙ ap₂ (λ (trades levels : Option (List ℕ)). record first {
      answers = with_text (record_line row text unknown) first.answers;
      trades = trades;
      levels = levels;
      events = with_text (row_events c.args.names.now row (Err UnknownSecurity) None) first.events;
    }) (with_text-nil first.trades) (with_text-nil first.levels))
