use Rattle.std.proofs.Common.{◌≡◌, ◌∙◌, ℕ, List, Ok, map, ap, subst}
use Rattle.xm_config.specs.Day.{Day, opening_day}
use Rattle.xm_day.specs.Days.{completeness_of}
use Rattle.xm_explanations.proofs.Known.{known-are}
use Rattle.xm_explanations.specs.Explained.{bytes_read}
use Rattle.xm_explanations.specs.Unsaid.{Unsaid, next_unsaid, unsaid_in}
use Rattle.xm_explanations.specs.declared.read_files.ReadFile.{ReadFile}
use Rattle.xm_files.specs.OrderFiles.{orders_of_files}
use Rattle.xm_observers.specs.Observed.{HasObserved, seen_of_rows}
use Rattle.xm_replay.specs.declared.report.DayReport.{DayReport}
use Rattle.xm_explanations.proofs.running.seen_day.Goals as goal

pub returns-in-Ok-Ok : goal.returns-in-Ok-Ok
returns-in-Ok-Ok c =
    let names = c.args.names.now in
    let config = c.args.config.now in
    let run = c.in-Ok-Ok.ensures in
    let rows = run.2 in
    let observed = subst (HasObserved _ next_unsaid (unsaid_in c.in_ok-rows.rows) config rows) c.in-Ok-Ok.field-0-is run.4 in
    let files_are : run.0 ≡ map (λ (file : ReadFile). bytes_read file.text) c.args.orders.now =
    known-are (λ t. t.now) c.as_mut_slice.result.now run.0 run.1 ∙ ap (λ ts. map (λ t. t.now) ts) c.as_mut_slice.ensures.value ∙ c.in_ok-texts.ensures in
    record {
      rows = rows;
      rows_are = subst (λ (fs : List (List ℕ)). orders_of_files names config fs ≡ Ok rows) files_are run.3;
      accepted = ap (λ (r : DayReport). r.accepted) c.seen_in.ensures.report ∙ ap (λ (d : Day). d.accepted) observed.day_is;
      refused = ap (λ (r : DayReport). r.refused) c.seen_in.ensures.report ∙ ap (λ (d : Day). d.refused) observed.day_is;
      completeness_is = c.seen_in.ensures.completeness ∙ ap completeness_of observed.day_is;
      unsaid_is = ap unsaid_in c.seen_in.ensures.rows ∙ observed.seen_is ∙ ap (λ (first : Unsaid). seen_of_rows next_unsaid first (opening_day config) rows) c.in_ok-rows.ensures;
    }
