-- A row of a known security, which its desk answers.
use Rattle.std.proofs.Common.{◌≡◌, ℕ, ◌+◌, ◌<◌, get_or, length, take, Bool, ◌||◌, true, false, is_some, List, Option, Some, None, Result, Ok, Err, IfOk, OnOk, map, option_map, set, slice_get, refl, subst, sym, ap, ◌∙◌}
use Rattle.std.proofs.lemmas.Option.{slice_get-map}
use Rattle.xm_config.proofs.Days.{accepts-known, on_accepted, on_refused}
use Rattle.xm_config.specs.Day.{Day as TheDay, Accepts, after_row, after_rows, answer_by, answer_on, counted, day_of, row_answer, told_of_rows}
use Rattle.xm_config.specs.declared.rows.Row.{Row}
use Rattle.xm_desk.specs.Answered.{if_accepted, journal_after}
use Rattle.xm_files.specs.Names.{NameLists}
use Rattle.xm_rules.specs.Refusals.{refusal_of}
use Rattle.xm_rules.specs.State.{State}
use Rattle.xm_rules.specs.Step.{Journal, replay}
use Rattle.xm_rules.specs.declared.replies.Refusal.{Refusal}
use Rattle.xm_rules.specs.declared.replies.Reply.{Reply}
use Rattle.std.proofs.lemmas.Bool.{false≢true}
use Rattle.xm_replay.specs.Taken.{TookRow}
use Rattle.xm_replay.specs.declared.report.DayReport.{DayReport}
use Rattle.xm_texts.specs.Asked.{TellsNothing, is_telling}
use Rattle.xm_texts.proofs.Feeding.{set-same}
use Rattle.xm_texts.proofs.Tells.{state-behind, told-more, told-row}
use Rattle.xm_texts.specs.Feeds.{next_feed}
use Rattle.xm_texts.specs.RowAnswers.{answer_line, told_of, with_text}
use Rattle.xm_texts.specs.RowEvents.{row_events, told_events}
use Rattle.xm_texts.specs.RowTrades.{told_trades, trade_lines}
use Rattle.xm_texts.specs.declared.told.Told.{Told}

-- what holds of an answer for two reasons
pub ok-both : {X E Q : Type 0} (r : Result X E) (P R : X → Type 0) → ((x : X) → P x → Q → R x) → IfOk r P → OnOk r Q → IfOk r R
ok-both (Ok x) P R gives p q = gives x p q
ok-both (Err e) P R gives p q = tt

module _ (js : List Journal) (row : Row) (j : Journal) (is : slice_get js row.security ≡ Some j) where
  stands : slice_get (map replay js) row.security ≡ Some (replay j)
  stands = slice_get-map replay js row.security ∙ ap (option_map replay) is

  pub answer-so : answer_on row (Some (replay j)) ≡ row_answer (map replay js) row
  answer-so = sym (ap (answer_on row) stands)

  pub told-so : (names : NameLists) (a r : ℕ) → row_events names row (answer_on row (Some (replay j))) (Some (replay j)) ≡ told_events names (day_of js a r) row
  told-so names a r = sym (ap (λ (o : Option State). row_events names row (answer_on row o) o) stands)

  pub accepts-so : refusal_of (replay j) row.command ≡ None → (a r : ℕ) → Accepts (day_of js a r) row
  accepts-so passes a r = accepts-known js row j a r is passes

  pub taken-so : (next : Journal) (answer : Result Reply Refusal) (a r : ℕ) → next ≡ journal_after j row.command → answer ≡ answer_on row (Some (replay j)) → after_row (day_of js a r) row ≡ counted (day_of (set js row.security next) a r) answer
  taken-so next answer a r after answers = by (refusal_of (replay j) row.command) refl
    where
      by : (o : Option Refusal) → refusal_of (replay j) row.command ≡ o → after_row (day_of js a r) row ≡ counted (day_of (set js row.security next) a r) answer
      by None passes =
          on_accepted js row j a r is passes
          ∙ ap (λ (k : Journal). day_of (set js row.security k) (a + 1) r) (sym (after ∙ ap (λ (o : Option Refusal). if_accepted o j row.command) passes))
          ∙ sym (ap (counted (day_of (set js row.security next) a r)) (answers ∙ ap (answer_by (replay j) row.command) passes))
      by (Some refusal) refuses =
          on_refused js row j refusal a r is refuses
          ∙ ap (λ (ks : List Journal). day_of ks a (r + 1)) (sym (ap (set js row.security) (after ∙ ap (λ (o : Option Refusal). if_accepted o j row.command) refuses) ∙ set-same js row.security j is))
          ∙ sym (ap (counted (day_of (set js row.security next) a r)) (answers ∙ ap (answer_by (replay j) row.command) refuses))

-- so it has been taken, and what is told of it has been added
module _ (names : NameLists) (texts : ℕ → List ℕ) (old new : List Journal) (a r accepted refused : ℕ) (row : Row) (answer : Result Reply Refusal) (before after : Told) where
  pub took-row : answer ≡ row_answer (map replay old) row → after_row (day_of old a r) row ≡ counted (day_of new a r) answer → day_of new accepted refused ≡ counted (day_of new a r) answer
      → after.answers ≡ with_text (answer_line names row (texts row.line) answer (slice_get (map replay new) row.security)) before.answers
      → after.trades ≡ with_text (trade_lines names row (texts row.line) answer (slice_get (map replay new) row.security)) before.trades → after.events ≡ with_text (told_events names (day_of old a r) row) before.events
      → after.depth ≡ option_map (next_feed names row (slice_get (map replay new) row.security)) before.depth → TookRow names texts (day_of old a r) row before (day_of new accepted refused) after
  took-row answers took counts has_answers has_trades has_events has_depth =
      let told = λ (tells : Row → List ℕ → Result Reply Refusal → Option State → List ℕ) (begun : Option (List ℕ)). ap (λ (lines : List ℕ). with_text lines begun) (told-row tells texts old new a r row answer answers took) in
      record {
        day_is = counts ∙ sym took;
        answers_are = has_answers ∙ told (answer_line names) before.answers;
        trades_are = has_trades ∙ told (trade_lines names) before.trades;
        events_are = has_events;
        depth_is = has_depth ∙ ap (λ (s : Option State). option_map (next_feed names row s) before.depth) (sym (state-behind old new a r row answer took));
      }

-- what is told of the rows so far by their texts, and of one more by texts that are the same
pub told-alike-more : (told : (ℕ → List ℕ) → TheDay → Row → List ℕ) (own texts : ℕ → List ℕ) (begun d : TheDay) (rows : List Row) (i : ℕ) (row : Row) (first before after : Option (List ℕ)) → i < length rows → own ≡ texts → d ≡ after_rows begun (take i rows)
    → before ≡ with_text (told_of_rows (told texts) begun (take i rows)) first → after ≡ with_text (told own d (get_or rows i row)) before → after ≡ with_text (told_of_rows (told texts) begun (take (i + 1) rows)) first
told-alike-more told own texts begun d rows i row first before after within same is so_far step =
    told-more (told texts) begun d rows i row first before after within is so_far (step ∙ ap (λ (by_number : ℕ → List ℕ). with_text (told by_number d (get_or rows i row)) before) same)

-- the same of what stands for the day and for what is told
pub took-same : (names : NameLists) (texts : ℕ → List ℕ) (d : TheDay) (row : Row) (told : Told) (desks same_desks : List Journal) (report same_report : DayReport) (more same_more : Told) → desks ≡ same_desks → report ≡ same_report → more ≡ same_more
    → TookRow names texts d row told (day_of same_desks same_report.accepted same_report.refused) same_more → TookRow names texts d row told (day_of desks report.accepted report.refused) more
took-same names texts d row told desks same_desks report same_report more same_more desks_are report_is more_is took =
    let OfMore : Told → Type 0 = λ m. TookRow names texts d row told (day_of same_desks same_report.accepted same_report.refused) m in
    let OfReport : DayReport → Type 0 = λ r. TookRow names texts d row told (day_of same_desks r.accepted r.refused) more in
    let OfDesks : List Journal → Type 0 = λ js. TookRow names texts d row told (day_of js report.accepted report.refused) more in
    subst OfDesks (sym desks_are) (subst OfReport (sym report_is) (subst OfMore (sym more_is) took))

-- where nothing is told, a row that has been taken leaves it so
pub took-silently : (names : NameLists) (texts : ℕ → List ℕ) (d : TheDay) (row : Row) (told : Told) (after : TheDay) → TellsNothing told → after ≡ after_row d row → TookRow names texts d row told after told
took-silently names texts d row told after nothing is = record {
  day_is = is;
  answers_are = nothing.answers ∙ sym (ap (with_text (told_of names texts d row)) nothing.answers);
  trades_are = nothing.trades ∙ sym (ap (with_text (told_trades names texts d row)) nothing.trades);
  events_are = nothing.events ∙ sym (ap (with_text (told_events names d row)) nothing.events);
  depth_is = nothing.depth ∙ sym (ap (option_map (next_feed names row (slice_get (after_row d row).states row.security))) nothing.depth);
}

pub count-same : (report same : DayReport) (m n : ℕ) → report ≡ same → same.accepted + same.refused ≡ m → m ≡ n → report.accepted + report.refused ≡ n
count-same report same m n is counts more = ap (λ (r : DayReport). r.accepted + r.refused) is ∙ counts ∙ more

none-where : {A : Type 0} (o : Option A) → is_some o ≡ false → o ≡ None
none-where None none = refl
none-where (Some x) none = absurd (false≢true (sym none))

left-of : (a b : Bool) → (a || b) ≡ false → a ≡ false
left-of false b none = refl
left-of true b none = none

right-of : (a b : Bool) → (a || b) ≡ false → b ≡ false
right-of false b none = none
right-of true b none = absurd (false≢true (sym none))

-- nothing is told where none text is asked for
pub telling-nothing : (told : Told) → is_telling told ≡ false → TellsNothing told
telling-nothing told none =
    let two = is_some told.answers || is_some told.trades in
    let three = left-of (two || is_some told.events) (is_some told.depth) none in
    let first = left-of two (is_some told.events) three in
    record {
      answers = none-where told.answers (left-of (is_some told.answers) (is_some told.trades) first);
      trades = none-where told.trades (right-of (is_some told.answers) (is_some told.trades) first);
      events = none-where told.events (right-of two (is_some told.events) three);
      depth = none-where told.depth (right-of (two || is_some told.events) (is_some told.depth) none);
    }
