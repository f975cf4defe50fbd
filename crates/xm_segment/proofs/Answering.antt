-- Rows that were answered one after another, and what a report counts of their answers.
use Rattle.std.proofs.Common.{◌≡◌, ℕ, ◌+◌, ◌*◌, ◌<◌, ◌≤◌, Bool, true, false, List, [], ◌∷◌, ◌++◌, length, get_or, take, drop, take-append-drop, suc, None, Result, Ok, Err, refl, sym, ap, ◌∙◌, subst, arith}
use Rattle.std.specs.Prelude.{MatchBool, slice_get, slice_index, sum}
use Rattle.std.proofs.Math.Seq.{drop-cons}
use Rattle.std.proofs.lemmas.List.{length-append, length-set, length-take-le, take_all, take_more}
use Rattle.std.proofs.lemmas.List.Sums.{get_or-le-sum_by, sum_by-set}
use Rattle.xm_rules.specs.declared.replies.Refusal.{Refusal}
use Rattle.xm_rules.specs.declared.replies.Refusal.TheVariants.{UnknownSecurity, UnknownMember, DayEnded, BadQuantity, BadPrice, BadValidity, BadCombination, WrongPhase, DuplicateReference, UnknownOrder, NotChangeable, TriggerReached, JournalFull, OutOfMemory, WouldExecute}
use Rattle.xm_rules.specs.declared.replies.Reply.{Reply}
use Rattle.xm_rules.specs.declared.settings.DeskSettings.{DeskSettings}
use Rattle.xm_segment.proofs.Lanes.{accepted-raises, known-or, quantity-raises, refused-counts}
use Rattle.xm_rules.specs.declared.totals.TheConstants.{MAX_TRADED_QUANTITY}
use Rattle.xm_segment.specs.Ledgers.{FitLanes, accepted_in, quantity_in}
use Rattle.xm_segment.specs.Reports.{HasRoomIn, no_report, report_from, with_answer_in}
use Rattle.xm_rules.specs.Refusals.{refusal_place}
use Rattle.xm_segment.specs.Seats.{IsTaken, SeatView, WereAnswered, lacks_memory}
use Rattle.xm_config.specs.declared.rows.Row.{Row}
use Rattle.xm_segment.specs.declared.working.WorkerReport.{WorkerReport}

-- each of these rows was answered, and none of them lacked memory
abbrev pub AllAnswered : List DeskSettings → SeatView → List Row → List (Result Reply Refusal) → SeatView → Type 0
AllAnswered settings before [] [] after = after ≡ before
AllAnswered settings before (row ∷ rows) (answer ∷ answers) after =
    (next : SeatView) × IsTaken settings row.security row.command answer before next × (lacks_memory answer ≡ false) × AllAnswered settings next rows answers after
AllAnswered settings before _ _ after = ⊥

module _ (settings : List DeskSettings) where
  abbrev rest : SeatView → List Row → List (Result Reply Refusal) → SeatView → Bool → Type 0
  rest next rows answers after lacks = MatchBool lacks ((answers ≡ []) × (after ≡ next)) (WereAnswered settings next rows answers after)

  pub whole : (before after : SeatView) (rows : List Row) (answers : List (Result Reply Refusal)) → AllAnswered settings before rows answers after → WereAnswered settings before rows answers after
  whole before after [] [] all = all
  whole before after [] (a ∷ as') all = absurd all
  whole before after (row ∷ rows) [] all = absurd all
  whole before after (row ∷ rows) (a ∷ as') all = (all.0, all.1, subst (rest all.0 rows as' after) (sym all.2) (whole all.0 after rows as' all.3))

  -- the first that lacked memory is the last
  pub cut : (before seat after : SeatView) (rows : List Row) (answers : List (Result Reply Refusal)) (row : Row) (answer : Result Reply Refusal) (more : List Row) → AllAnswered settings before rows answers seat
      → IsTaken settings row.security row.command answer seat after → lacks_memory answer ≡ true → WereAnswered settings before (rows ++ row ∷ more) (answers ++ answer ∷ []) after
  cut before seat after [] [] row answer more all is lacks = (after, subst (λ (s : SeatView). IsTaken settings row.security row.command answer s after) all is, subst (rest after more [] after) (sym lacks) (refl, refl))
  cut before seat after [] (a ∷ as') row answer more all is lacks = absurd all
  cut before seat after (r ∷ rows) [] row answer more all is lacks = absurd all
  cut before seat after (r ∷ rows) (a ∷ as') row answer more all is lacks =
      (all.0, all.1, subst (rest all.0 (rows ++ row ∷ more) (as' ++ answer ∷ []) after) (sym all.2) (cut all.0 seat after rows as' row answer more all.3 is lacks))

  pub one-more : (before seat after : SeatView) (rows : List Row) (answers : List (Result Reply Refusal)) (row : Row) (answer : Result Reply Refusal) → AllAnswered settings before rows answers seat
      → IsTaken settings row.security row.command answer seat after → lacks_memory answer ≡ false → AllAnswered settings before (rows ++ row ∷ []) (answers ++ answer ∷ []) after
  one-more before seat after [] [] row answer all is has = (after, subst (λ (s : SeatView). IsTaken settings row.security row.command answer s after) all is, has, refl)
  one-more before seat after [] (a ∷ as') row answer all is has = absurd all
  one-more before seat after (r ∷ rows) [] row answer all is has = absurd all
  one-more before seat after (r ∷ rows) (a ∷ as') row answer all is has = (all.0, all.1, all.2, one-more all.0 seat after rows as' row answer all.3 is has)

pub report-push : (r : WorkerReport) (answers : List (Result Reply Refusal)) (answer : Result Reply Refusal) → report_from r (answers ++ answer ∷ []) ≡ with_answer_in (report_from r answers) answer
report-push r [] answer = refl
report-push r (a ∷ as') answer = report-push (with_answer_in r a) as' answer

-- ---- what a report counts

-- each of so many answers stands at one place
pub record Counts (n : ℕ) (r : WorkerReport) : Type 0 where
  pub places : length r.refused ≡ 15
  pub counted : r.accepted + sum r.refused ≡ n

pub place-within : (e : Refusal) → refusal_place e < 15
place-within UnknownSecurity = omega arith
place-within UnknownMember = omega arith
place-within DayEnded = omega arith
place-within BadQuantity = omega arith
place-within BadPrice = omega arith
place-within BadValidity = omega arith
place-within BadCombination = omega arith
place-within WrongPhase = omega arith
place-within DuplicateReference = omega arith
place-within UnknownOrder = omega arith
place-within NotChangeable = omega arith
place-within TriggerReached = omega arith
place-within JournalFull = omega arith
place-within (OutOfMemory _) = omega arith
place-within WouldExecute = omega arith

pub counts-more : (n : ℕ) (r : WorkerReport) (a : Result Reply Refusal) → Counts n r → Counts (n + 1) (with_answer_in r a)
counts-more n r (Ok reply) c = record { places = c.places; counted = omega (arith, c.counted) }
counts-more n r (Err e) c =
    let place = refusal_place e in
    let within : place < length r.refused = omega (arith, place-within e, c.places) in
    let raised = sum_by-set (λ (x : ℕ). x) r.refused place (slice_index r.refused place + 1) 0 within in
    record { places = length-set r.refused place (slice_index r.refused place + 1) ∙ c.places; counted = omega (arith, c.counted, raised) }

-- no place counts more than all
pub count-within : (n : ℕ) (r : WorkerReport) (e : Refusal) → Counts n r → slice_index r.refused (refusal_place e) ≤ n
count-within n r e c =
    let within : refusal_place e < length r.refused = omega (arith, place-within e, c.places) in
    omega (arith, c.counted, get_or-le-sum_by (λ (x : ℕ). x) r.refused (refusal_place e) 0 within)

pub nothing-counts : Counts 0 no_report
nothing-counts = record { places = refl; counted = refl }

-- what is said of a worker's rows at their end, or where memory was wanting for one
pub record HasWorked (settings : List DeskSettings) (before : SeatView) (rows : List Row) (seat : SeatView) (report : WorkerReport) : Type 0 where
  pub answers : List (Result Reply Refusal)
  pub were : WereAnswered settings before rows answers seat
  pub reports : report ≡ report_from no_report answers
  pub accepted : accepted_in seat.sums ≡ accepted_in before.sums + report.accepted
  pub quantity : quantity_in seat.sums ≡ quantity_in before.sums + report.quantity

-- a seat whose rows were taken so far, all answered and none for want of memory, and the report of them
pub record IsWorked (settings : List DeskSettings) (before : SeatView) (rows : List Row) (seat : SeatView) (report : WorkerReport) : Type 0 where
  pub answers : List (Result Reply Refusal)
  pub all : AllAnswered settings before rows answers seat
  pub reports : report ≡ report_from no_report answers
  pub counts : Counts (length rows) report
  pub accepted : accepted_in seat.sums ≡ accepted_in before.sums + report.accepted
  pub quantity : quantity_in seat.sums ≡ quantity_in before.sums + report.quantity

pub none-worked : (settings : List DeskSettings) (seat : SeatView) → IsWorked settings seat [] seat no_report
none-worked settings seat =
    record { answers = []; all = refl; reports = refl; counts = nothing-counts; accepted = omega arith; quantity = omega arith }

accepted-more : (settings : List DeskSettings) (seat next : SeatView) (row : Row) (answer : Result Reply Refusal) (report : WorkerReport) (n m : ℕ) → IsTaken settings row.security row.command answer seat next → FitLanes settings seat.sums
    → accepted_in seat.sums ≡ n + report.accepted → quantity_in seat.sums ≡ m + report.quantity
    → (accepted_in next.sums ≡ n + (with_answer_in report answer).accepted) × (quantity_in next.sums ≡ m + (with_answer_in report answer).quantity)
accepted-more settings seat next row (Ok reply) report n m took fit accepted quantity =
    let known = known-or row.security (slice_get settings row.security) row.command (Ok reply) seat.row.watches next.row.watches took.watches in
    (omega (arith, ap accepted_in took.sums, accepted-raises settings row.security seat.sums reply known fit, accepted), omega (arith, ap quantity_in took.sums, quantity-raises settings row.security seat.sums reply known fit, quantity))
accepted-more settings seat next row (Err e) report n m took fit accepted quantity =
    let sums = took.sums ∙ refused-counts row.security seat.sums e in
    (ap accepted_in sums ∙ accepted, ap quantity_in sums ∙ quantity)

-- a report of fewer rows than a worker takes has room for one more, where what was traded is within what eight securities trade
room-for : (n : ℕ) (report : WorkerReport) (answer : Result Reply Refusal) → Counts n report → n < 1000000 → (with_answer_in report answer).quantity ≤ 8 * MAX_TRADED_QUANTITY → HasRoomIn report answer
room-for n report (Ok reply) c few within = (omega (arith, c.counted), omega (arith, within))
room-for n report (Err e) c few within = omega (arith, count-within n report e c)

-- want of memory is told
pub want-told : (report : WorkerReport) (answer : Result Reply Refusal) → lacks_memory answer ≡ true → (with_answer_in report answer).wanting ≡ None → ⊥
want-told report (Ok reply) lacks none = cc
want-told report (Err (OutOfMemory _)) lacks none = cc
want-told report (Err UnknownSecurity) lacks none = cc
want-told report (Err UnknownMember) lacks none = cc
want-told report (Err DayEnded) lacks none = cc
want-told report (Err BadQuantity) lacks none = cc
want-told report (Err BadPrice) lacks none = cc
want-told report (Err BadValidity) lacks none = cc
want-told report (Err BadCombination) lacks none = cc
want-told report (Err WrongPhase) lacks none = cc
want-told report (Err DuplicateReference) lacks none = cc
want-told report (Err UnknownOrder) lacks none = cc
want-told report (Err NotChangeable) lacks none = cc
want-told report (Err TriggerReached) lacks none = cc
want-told report (Err JournalFull) lacks none = cc
want-told report (Err WouldExecute) lacks none = cc

-- a row that is answered next
module _ (settings : List DeskSettings) (before seat next : SeatView) (rows : List Row) (row : Row) (answer : Result Reply Refusal) (report : WorkerReport) (w : IsWorked settings before rows seat report)
    (took : IsTaken settings row.security row.command answer seat next) (fit : FitLanes settings seat.sums) where
  sums_now : (accepted_in next.sums ≡ accepted_in before.sums + (with_answer_in report answer).accepted) × (quantity_in next.sums ≡ quantity_in before.sums + (with_answer_in report answer).quantity)
  sums_now = accepted-more settings seat next row answer report (accepted_in before.sums) (quantity_in before.sums) took fit w.accepted w.quantity

  report_now : with_answer_in report answer ≡ report_from no_report (w.answers ++ answer ∷ [])
  report_now = ap (λ (r : WorkerReport). with_answer_in r answer) w.reports ∙ sym (report-push no_report w.answers answer)

  pub worked-more : lacks_memory answer ≡ false → IsWorked settings before (rows ++ row ∷ []) next (with_answer_in report answer)
  worked-more has =
      record {
        answers = w.answers ++ answer ∷ [];
        all = one-more settings before seat next rows w.answers row answer w.all took has;
        reports = report_now;
        counts = subst (λ (n : ℕ). Counts n (with_answer_in report answer)) (sym (length-append rows (row ∷ []))) (counts-more (length rows) report answer w.counts);
        accepted = sums_now.0;
        quantity = sums_now.1;
      }

  -- all that a worker's report says where it ends for want of memory
  pub worked-cut : (more : List Row) → lacks_memory answer ≡ true → HasWorked settings before (rows ++ row ∷ more) next (with_answer_in report answer)
  worked-cut more lacks =
      record {
        answers = w.answers ++ answer ∷ [];
        were = cut settings before seat next rows w.answers row answer more w.all took lacks;
        reports = report_now;
        accepted = sums_now.0;
        quantity = sums_now.1;
      }

  quantity-room : quantity_in next.sums ≤ 8 * MAX_TRADED_QUANTITY → (with_answer_in report answer).quantity ≤ 8 * MAX_TRADED_QUANTITY
  quantity-room within = omega (arith, within, sums_now.1)

  pub room : length rows < 1000000 → quantity_in next.sums ≤ 8 * MAX_TRADED_QUANTITY → HasRoomIn report answer
  room few within = room-for (length rows) report answer w.counts few (quantity-room within)

-- the row with this index is answered next
module _ (settings : List DeskSettings) (before seat next : SeatView) (rows : List Row) (i : ℕ) (d : Row) (answer : Result Reply Refusal) (report : WorkerReport) (within : i < length rows)
    (w : IsWorked settings before (take i rows) seat report) (took : IsTaken settings (get_or rows i d).security (get_or rows i d).command answer seat next)
    (fit : FitLanes settings seat.sums) where
  pub row-worked : lacks_memory answer ≡ false → IsWorked settings before (take (i + 1) rows) next (with_answer_in report answer)
  row-worked has =
      subst (λ (rs : List Row). IsWorked settings before rs next (with_answer_in report answer)) (sym (take_more rows i d within))
      (worked-more settings before seat next (take i rows) (get_or rows i d) answer report w took fit has)

  pub row-cut : lacks_memory answer ≡ true → HasWorked settings before rows next (with_answer_in report answer)
  row-cut lacks =
      subst (λ (rs : List Row). HasWorked settings before rs next (with_answer_in report answer)) (ap (λ (rs : List Row). take i rows ++ rs) (sym (drop-cons rows i d within)) ∙ take-append-drop i rows)
      (worked-cut settings before seat next (take i rows) (get_or rows i d) answer report w took fit (drop (suc i) rows) lacks)

  pub row-room : length rows ≤ 1000000 → quantity_in next.sums ≤ 8 * MAX_TRADED_QUANTITY → HasRoomIn report answer
  row-room few quantity =
      room settings before seat next (take i rows) (get_or rows i d) answer report w took fit (omega (arith, length-take-le i rows (omega (arith, within)), within, few)) quantity

-- all rows are answered
pub rows-worked : (settings : List DeskSettings) (before seat : SeatView) (rows : List Row) (i : ℕ) (report : WorkerReport) → length rows ≤ i → IsWorked settings before (take i rows) seat report
    → HasWorked settings before rows seat report × (report.accepted + sum report.refused ≡ length rows)
rows-worked settings before seat rows i report end w =
    let whole-rows = take_all i rows end in (
      record {
        answers = w.answers;
        were = subst (λ (rs : List Row). WereAnswered settings before rs w.answers seat) whole-rows (whole settings before seat (take i rows) w.answers w.all);
        reports = w.reports;
        accepted = w.accepted;
        quantity = w.quantity;
      },
      w.counts.counted ∙ ap length whole-rows,
    )
