-- What a worker's report counts is no more than its rows.
use Rattle.std.proofs.Common.{◌≡◌, ◌+◌, ◌≤◌, Bool, true, false, List, [], ◌∷◌, length, MatchBool, Result, Ok, Err, ap, arith}
use Rattle.xm_rules.specs.declared.replies.Refusal.{Refusal}
use Rattle.xm_rules.specs.declared.replies.Reply.{Reply}
use Rattle.xm_rules.specs.declared.settings.DeskSettings.{DeskSettings}
use Rattle.xm_segment.specs.Reports.{no_report, report_from, report_of, with_answer_in}
use Rattle.xm_segment.specs.Seats.{SeatView, WereAnswered, lacks_memory}
use Rattle.xm_config.specs.declared.rows.Row.{Row}
use Rattle.xm_segment.specs.declared.working.WorkerReport.{WorkerReport}

report_from-accepted : (r : WorkerReport) (answers : List (Result Reply Refusal)) → (report_from r answers).accepted ≤ r.accepted + length answers
report_from-accepted r [] = omega arith
report_from-accepted r (Ok reply ∷ answers) = let rest = report_from-accepted (with_answer_in r (Ok reply)) answers in omega (arith, rest)
report_from-accepted r (Err refusal ∷ answers) = let rest = report_from-accepted (with_answer_in r (Err refusal)) answers in omega (arith, rest)

answers-next : (lacks : Bool) (rows : List Row) (answers : List (Result Reply Refusal)) (Last More : Type 0) → MatchBool lacks ((answers ≡ []) × Last) More → (More → length answers ≤ length rows) → length answers ≤ length rows
answers-next true rows answers Last More are rest = let none = ap length are.0 in omega (arith, none)
answers-next false rows answers Last More are rest = rest are

answers-within : (settings : List DeskSettings) (before after : SeatView) (rows : List Row) (answers : List (Result Reply Refusal)) → WereAnswered settings before rows answers after → length answers ≤ length rows
answers-within settings before after [] [] were = omega arith
answers-within settings before after (row ∷ rows) (answer ∷ answers) were =
    let next = answers-next (lacks_memory answer) rows answers (after ≡ were.0) (WereAnswered settings were.0 rows answers after) were.2 (answers-within settings were.0 after rows answers) in
    omega (arith, next)
answers-within settings before after [] (answer ∷ answers) were = absurd were
answers-within settings before after (row ∷ rows) [] were = absurd were

-- no more rows are accepted than there are
pub accepted-within : (settings : List DeskSettings) (before after : SeatView) (rows : List Row) (report : WorkerReport) → (answers : List (Result Reply Refusal)) × WereAnswered settings before rows answers after × (report ≡ report_of answers)
    → report.accepted ≤ length rows
accepted-within settings before after rows report worked =
    let counted = report_from-accepted no_report worked.0 in
    let within = answers-within settings before after rows worked.0 worked.1 in
    let is = ap (λ (r : WorkerReport). r.accepted) worked.2 in
    omega (arith, counted, within, is)
