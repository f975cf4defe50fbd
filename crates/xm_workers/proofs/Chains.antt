-- What workers did, one part of their rows after another.
use Rattle.std.proofs.Common.{◌≡◌, ◌≢◌, ℕ, zero, suc, ◌+◌, ◌-◌, ◌<◌, ◌++◌, ◌==◌, Bool, true, false, List, [], ◌∷◌, length, None, Some, Result, Ok, Err, refl, sym, ap, ◌∙◌, subst, arith, ⊎_elim}
use Rattle.std.specs.Prelude.{MatchBool, cond, is_ok, not, set, slice_get, sum}
use Rattle.std.specs.List.{list_all}
use Rattle.std.proofs.lemmas.Bool.{and_from, and_parts}
use Rattle.std.proofs.lemmas.Bool.Decides.{nat_tests}
use Rattle.std.proofs.lemmas.List.{length-append, length-set}
use Rattle.std.proofs.lemmas.List.Elements.{filter-append}
use Rattle.std.proofs.lemmas.List.Folds.{list_all-append}
use Rattle.std.proofs.lemmas.List.Sums.{sum_by-append, sum_by-cons, sum_by-set}
use Rattle.std.proofs.lemmas.Option.{get_or_from_slice_get}
use Rattle.xm_workers.proofs.RoundRows.{is_phase, round-rows}
use Rattle.xm_board.proofs.Prefixes.{get_push}
use Rattle.xm_workers.specs.Standing.{Took, TookAll, WillTake, WillTakeAll}
use Rattle.xm_workers.specs.Workers.{HasWorked, HaveTaken, HaveWorked, WorkerView, accepted_among, fresh_worker, is_taken_by, rows_of, taken_by, taken_in}
use Rattle.xm_files.specs.Timetable.{is_of_member, share_of}
use Rattle.xm_workers.specs.declared.standing.Standing.{Standing}
use Rattle.xm_rules.specs.declared.replies.Refusal.{Refusal}
use Rattle.xm_rules.specs.declared.replies.Refusal.TheVariants.{UnknownSecurity, UnknownMember, DayEnded, BadQuantity, BadPrice, BadValidity, BadCombination, WrongPhase, DuplicateReference, UnknownOrder, NotChangeable, TriggerReached, JournalFull, OutOfMemory, WouldExecute}
use Rattle.xm_rules.specs.declared.replies.Reply.{Reply}
use Rattle.xm_rules.specs.declared.settings.DeskSettings.{DeskSettings}
use Rattle.xm_segment.specs.Reports.{no_report, report_from, report_of, with_answer_in}
use Rattle.xm_segment.specs.Seats.{IsTaken, SeatView, WereAnswered, lacks_memory}
use Rattle.xm_config.specs.declared.config.SegmentConfig.{SegmentConfig}
use Rattle.xm_config.specs.declared.rows.Row.{Row}
use Rattle.xm_replay.proofs.Places.{same-at, set-here, set-there, some-at, within-length}
use Rattle.xm_segment.specs.declared.working.WorkerReport.{WorkerReport}

-- each of these rows was answered, and none of them lacked memory
abbrev pub AllAnswered : List DeskSettings → SeatView → List Row → List (Result Reply Refusal) → SeatView → Type 0
AllAnswered settings before [] [] after = after ≡ before
AllAnswered settings before (row ∷ rows) (answer ∷ answers) after =
    (next : SeatView) × IsTaken settings row.security row.command answer before next × (lacks_memory answer ≡ false) × AllAnswered settings next rows answers after
AllAnswered settings before _ _ after = ⊥

-- want of memory is told by the report
want-told : (report : WorkerReport) (answer : Result Reply Refusal) → lacks_memory answer ≡ true → (with_answer_in report answer).wanting ≡ None → ⊥
want-told report (Ok reply) lacks none = cc
want-told report (Err (OutOfMemory _)) lacks none = cc
want-told report (Err UnknownSecurity) lacks none = cc
want-told report (Err UnknownMember) lacks none = cc
want-told report (Err DayEnded) lacks none = cc
want-told report (Err BadQuantity) lacks none = cc
want-told report (Err BadPrice) lacks none = cc
want-told report (Err BadValidity) lacks none = cc
want-told report (Err BadCombination) lacks none = cc
want-told report (Err WrongPhase) lacks none = cc
want-told report (Err DuplicateReference) lacks none = cc
want-told report (Err UnknownOrder) lacks none = cc
want-told report (Err NotChangeable) lacks none = cc
want-told report (Err TriggerReached) lacks none = cc
want-told report (Err JournalFull) lacks none = cc
want-told report (Err WouldExecute) lacks none = cc

-- memory wasn't wanting for an answer
abbrev pub keeps : Result Reply Refusal → Bool
keeps answer = not (lacks_memory answer)

not-lacking : (b : Bool) → not b ≡ true → b ≡ false
not-lacking false is = refl
not-lacking true is = absurd (cc)

not-keeping : (b : Bool) → b ≡ false → not b ≡ true
not-keeping false is = refl
not-keeping true is = absurd (cc)

module _ (settings : List DeskSettings) where
  abbrev rest : SeatView → List Row → List (Result Reply Refusal) → SeatView → Bool → Type 0
  rest next rows answers after lacks = MatchBool lacks ((answers ≡ []) × (after ≡ next)) (WereAnswered settings next rows answers after)

  pub all-answered : (before after : SeatView) (rows : List Row) (answers : List (Result Reply Refusal)) → WereAnswered settings before rows answers after → list_all keeps answers ≡ true → AllAnswered settings before rows answers after
  all-answered before after [] [] were all = were
  all-answered before after [] (a ∷ as') were all = absurd were
  all-answered before after (row ∷ rows) [] were all = absurd were
  all-answered before after (row ∷ rows) (a ∷ as') were all =
      let both = and_parts (keeps a) (list_all keeps as') all in
      let has = not-lacking (lacks_memory a) both.0 in
      (were.0, were.1, has, all-answered were.0 after rows as' (subst (rest were.0 rows as' after) has were.2) both.1)

  whole : (before after : SeatView) (rows : List Row) (answers : List (Result Reply Refusal)) → AllAnswered settings before rows answers after → WereAnswered settings before rows answers after
  whole before after [] [] all = all
  whole before after [] (a ∷ as') all = absurd all
  whole before after (row ∷ rows) [] all = absurd all
  whole before after (row ∷ rows) (a ∷ as') all = (all.0, all.1, subst (rest all.0 rows as' after) (sym all.2) (whole all.0 after rows as' all.3))

  then-answered : (a b c : SeatView) (rows more : List Row) (answers others : List (Result Reply Refusal)) → AllAnswered settings a rows answers b → AllAnswered settings b more others c → AllAnswered settings a (rows ++ more) (answers ++ others) c
  then-answered a b c [] more [] others first next = subst (λ (s : SeatView). AllAnswered settings s more others c) first next
  then-answered a b c [] more (x ∷ xs) others first next = absurd first
  then-answered a b c (row ∷ rows) more [] others first next = absurd first
  then-answered a b c (row ∷ rows) more (x ∷ xs) others first next = (first.0, first.1, first.2, then-answered first.0 b c rows more xs others first.3 next)

  -- a report that tells no want of memory is that of answers none of which lacked it
  pub none-lacked : (before after : SeatView) (rows : List Row) (answers : List (Result Reply Refusal)) (r : WorkerReport) → WereAnswered settings before rows answers after → (report_from r answers).wanting ≡ None → list_all keeps answers ≡ true
  none-lacked before after rows [] r were none = refl
  none-lacked before after [] (a ∷ as') r were none = absurd were
  none-lacked before after (row ∷ rows) (a ∷ as') r were none = by-first (lacks_memory a) refl were.2 (λ more. none-lacked were.0 after rows as' (with_answer_in r a) more none)
    where
      by-first : (b : Bool) → lacks_memory a ≡ b → rest were.0 rows as' after b → (WereAnswered settings were.0 rows as' after → list_all keeps as' ≡ true) → list_all keeps (a ∷ as') ≡ true
      by-first false is more others = and_from (keeps a) (list_all keeps as') (not-keeping (lacks_memory a) is) (others more)
      by-first true is ends others =
          let alone = ap (λ (xs : List (Result Reply Refusal)). (report_from (with_answer_in r a) xs).wanting) (sym ends.0) ∙ none in
          absurd (want-told r a is alone)

  pub worked-none : (w : WorkerView) → HasWorked settings [] w w
  worked-none w = record { answers = []; answered = refl; memory = refl; accepted = omega arith; all = omega arith }

  pub worked-then : (a b c : WorkerView) (rows more : List Row) → HasWorked settings rows a b → HasWorked settings more b c → HasWorked settings (rows ++ more) a c
  worked-then a b c rows more first next =
      let one = all-answered a.seat b.seat rows first.answers first.answered first.memory in
      let other = all-answered b.seat c.seat more next.answers next.answered next.memory in
      let both = then-answered a.seat b.seat c.seat rows more first.answers next.answers one other in
      record {
        answers = first.answers ++ next.answers;
        answered = whole a.seat c.seat (rows ++ more) (first.answers ++ next.answers) both;
        memory = list_all-append keeps first.answers next.answers ∙ and_from _ _ first.memory next.memory;
        accepted = omega (arith, first.accepted, next.accepted, sum_by-append (λ (x : Result Reply Refusal). cond (is_ok x) 1 0) first.answers next.answers);
        all = omega (arith, first.all, next.all, length-append rows more);
      }

-- what a report counts as accepted are the acceptances
pub report-accepted : (r : WorkerReport) (answers : List (Result Reply Refusal)) → (report_from r answers).accepted ≡ r.accepted + accepted_among answers
report-accepted r [] = omega arith
report-accepted r (Ok reply ∷ answers) =
    let rest = report-accepted (with_answer_in r (Ok reply)) answers in
    omega (arith, rest, sum_by-cons (λ (x : Result Reply Refusal). cond (is_ok x) 1 0) (Ok reply) answers)
report-accepted r (Err refusal ∷ answers) =
    let rest = report-accepted (with_answer_in r (Err refusal)) answers in
    omega (arith, rest, sum_by-cons (λ (x : Result Reply Refusal). cond (is_ok x) 1 0) (Err refusal) answers)

-- a worker that took rows, by the report of them
pub worked-by : (settings : List DeskSettings) (before after : WorkerView) (rows : List Row) (report : WorkerReport) → (answers : List (Result Reply Refusal)) × WereAnswered settings before.seat rows answers after.seat × (report ≡ report_of answers)
    → report.wanting ≡ None → report.accepted + sum report.refused ≡ length rows → after.report.accepted ≡ before.report.accepted + report.accepted → after.report.refused ≡ before.report.refused + sum report.refused
    → HasWorked settings rows before after
worked-by settings before after rows report worked none all accepted refused =
    let told = ap (λ (r : WorkerReport). r.wanting) (sym worked.2) ∙ none in
    let is = ap (λ (r : WorkerReport). r.accepted) worked.2 in
    let counted = report-accepted no_report worked.0 in
    record {
      answers = worked.0;
      answered = worked.1;
      memory = none-lacked settings before.seat after.seat rows worked.0 no_report worked.1 told;
      accepted = omega (arith, accepted, is, counted);
      all = omega (arith, accepted, refused, all);
    }

-- ---- workers side by side

module _ (settings : List DeskSettings) where
  -- nobody takes a row
  pub none-work : (rows : ℕ → List Row) (ws : List WorkerView) → ((n : ℕ) → rows n ≡ []) → HaveWorked settings rows ws ws
  none-work rows ws none = record {
    all = refl;
    each = λ n b a before after.
        let same = same-at ws n b a before after in
        subst (λ (w : WorkerView). HasWorked settings (rows n) b w) same (subst (λ (rs : List Row). HasWorked settings rs b b) (sym (none n)) (worked-none settings b));
  }

  -- one alone takes rows
  pub one-works : (rows : ℕ → List Row) (ws : List WorkerView) (i : ℕ) (b a : WorkerView) → slice_get ws i ≡ Some b → HasWorked settings (rows i) b a → ((n : ℕ) → n ≢ i → rows n ≡ []) → HaveWorked settings rows ws (set ws i a)
  one-works rows ws i b a at worked none = record {
    all = length-set ws i a;
    each = λ n x y before after. by n x y before after (n == i) refl;
  }
    where
      by : (n : ℕ) (x y : WorkerView) → slice_get ws n ≡ Some x → slice_get (set ws i a) n ≡ Some y → (t : Bool) → (n == i) ≡ t → HasWorked settings (rows n) x y
      by n x y before after true here =
          let same : n ≡ i = grind (arith, nat_tests) in
          let first = same-at ws i b x at (subst (λ (k : ℕ). slice_get ws k ≡ Some x) same before) in
          let last = set-here ws i a y (subst (λ (k : ℕ). slice_get (set ws i a) k ≡ Some y) same after) in
          subst (λ (k : ℕ). HasWorked settings (rows k) x y) (sym same) (subst (λ (w : WorkerView). HasWorked settings (rows i) w y) first (subst (λ (w : WorkerView). HasWorked settings (rows i) b w) last worked))
      by n x y before after false there =
          let other : n ≢ i = (λ same. absurd (grind (arith, nat_tests))) in
          let same = same-at ws n x y before (sym (set-there ws i n a other) ∙ after) in
          subst (λ (w : WorkerView). HasWorked settings (rows n) x w) same (subst (λ (rs : List Row). HasWorked settings rs x x) (sym (none n other)) (worked-none settings x))

  -- all take rows, and then more
  pub all-work : (rows more both : ℕ → List Row) (as' bs cs : List WorkerView) → HaveWorked settings rows as' bs → HaveWorked settings more bs cs → ((n : ℕ) → n < length as' → both n ≡ rows n ++ more n) → HaveWorked settings both as' cs
  all-work rows more both as' bs cs first next joins = record {
    all = next.all ∙ first.all;
    each = λ n a c before after.
        let within = within-length as' n a before in
        let b = some-at bs n (omega (arith, within, first.all)) in
        subst (λ (rs : List Row). HasWorked settings rs a c) (sym (joins n within)) (worked-then settings a b.0 c (rows n) (more n) (first.each n a b.0 before b.1) (next.each n b.0 c b.1 after));
  }

  -- the members' rows of a round, and then the phase rows by the first worker
  pub round-work : (workers : ℕ) (rows members phases : List Row) (ws bs : List WorkerView) (b a : WorkerView) → length ws ≡ workers → HaveWorked settings (λ n. share_of n (length ws) members) ws bs → slice_get bs 0 ≡ Some b
      → HasWorked settings phases b a → members ++ phases ≡ rows → list_all is_of_member members ≡ true → list_all is_phase phases ≡ true → HaveWorked settings (λ n. rows_of n workers rows) ws (set bs 0 a)
  round-work workers rows members phases ws bs b a count shares at worked together all others =
      all-work (λ n. share_of n (length ws) members) (λ n. cond (n == 0) phases []) (λ n. rows_of n workers rows) ws bs (set bs 0 a) shares
      (one-works (λ n. cond (n == 0) phases []) bs 0 b a at worked none) joins
    where
      none : (n : ℕ) → n ≢ 0 → cond (n == 0) phases [] ≡ []
      none zero other = absurd (other refl)
      none (suc n) other = let later : (suc n == 0) ≡ false = grind (arith, nat_tests) in ap (λ (b : Bool). cond b phases []) later

      joins : (n : ℕ) → n < length ws → rows_of n workers rows ≡ share_of n (length ws) members ++ cond (n == 0) phases []
      joins n within =
          ap (rows_of n workers) (sym together) ∙ round-rows n workers members phases (n == 0) refl all others
          ∙ ap (λ (k : ℕ). share_of n k members ++ cond (n == 0) phases []) (sym count)

  -- workers that were started and waited for
  pub joined-work : {S : Type 0} (rows : ℕ → List Row) (ws after : List WorkerView) (standing : List (Standing S)) → length standing ≡ length ws → length after ≡ length standing → WillTakeAll rows ws standing → TookAll settings standing after
      → HaveWorked settings rows ws after
  joined-work rows ws after standing all same will took = record {
    all = same ∙ all;
    each = λ n b a before at.
        let within = within-length ws n b before in
        let place = length ws - suc n in
        let there : place < length standing = omega (arith, within, all) in
        let one = some-at standing place there in
        let both : n + place + 1 ≡ length ws = omega (arith, within) in
        took n place one.0 a (both ∙ sym all) one.1 at (rows n) b (will n place b one.0 both before one.1);
  }

  -- a round more of a day's rows
  pub rounds-work : (workers : ℕ) (config : SegmentConfig) (taken rows : List Row) (ws after : List WorkerView) → HaveTaken settings workers config taken ws → HaveWorked settings (λ n. rows_of n workers rows) ws after
      → taken_by after ≡ taken_by ws + length rows → HaveTaken settings workers config (taken ++ rows) after
  rounds-work workers config taken rows ws after have more counted = record {
    sound = have.sound;
    opened = have.opened;
    each = more.all ∙ have.each;
    worked = λ n w at.
        let within = within-length after n w at in
        let b = some-at ws n (omega (arith, within, more.all)) in
        let both = worked-then settings (fresh_worker settings n) b.0 w (rows_of n workers taken) (rows_of n workers rows) (have.worked n b.0 b.1) (more.each n b.0 w b.1 at) in
        subst (λ (rs : List Row). HasWorked settings rs (fresh_worker settings n) w) (sym (filter-append (is_taken_by n workers) taken rows)) both;
    all = omega (arith, have.all, counted, length-append taken rows);
  }

-- one worker more has taken rows
pub set-taken : (ws : List WorkerView) (i n : ℕ) (b a : WorkerView) → slice_get ws i ≡ Some b → taken_in a.report ≡ taken_in b.report + n → taken_by (set ws i a) ≡ taken_by ws + n
set-taken ws i n b a at more =
    let within = within-length ws i b at in
    let was = ap (λ (w : WorkerView). taken_in w.report) (get_or_from_slice_get ws i b b at) in
    omega (arith, sum_by-set (λ (w : WorkerView). taken_in w.report) ws i a b within, was, more)

-- ---- lists that grow and shrink at their end

pub push-keeps : {A : Type 0} (xs : List A) (y : A) (i : ℕ) (x : A) → slice_get xs i ≡ Some x → slice_get (xs ++ y ∷ []) i ≡ Some x
push-keeps [] y i x at = absurd (cc)
push-keeps (z ∷ xs) y zero x at = at
push-keeps (z ∷ xs) y (suc i) x at = push-keeps xs y i x at

pub push-last : {A : Type 0} (xs : List A) (y : A) → slice_get (xs ++ y ∷ []) (length xs) ≡ Some y
push-last [] y = refl
push-last (z ∷ xs) y = push-last xs y

-- a worker more is started, the one before those that stand
pub will-push : {S : Type 0} (rows : ℕ → List Row) (ws : List WorkerView) (standing : List (Standing S)) (left : ℕ) (worker : WorkerView) (started : Standing S) (share : List Row) → WillTakeAll rows ws standing → left + length standing + 1 ≡ length ws
    → slice_get ws left ≡ Some worker → share ≡ rows left → WillTake share worker started → WillTakeAll rows ws (standing ++ started ∷ [])
will-push {S} rows ws standing left worker started share will both of is takes number place w one sum at there =
    ⊎_elim (λ before. will number place w one sum at before)
    (λ last.
    let same : number ≡ left = omega (arith, sum, both, last.0) in
    let who = same-at ws left worker w of (subst (λ (k : ℕ). slice_get ws k ≡ Some w) same at) in
    subst (λ (n : ℕ). WillTake (rows n) w one) (sym same)
    (subst (λ (s : Standing S). WillTake (rows left) w s) last.1 (subst (λ (v : WorkerView). WillTake (rows left) v started) who (subst (λ (rs : List Row). WillTake rs worker started) is takes))))
    (get_push standing started place one there)

-- a worker more was waited for, the one after those that are back
pub took-push : {S : Type 0} (settings : List DeskSettings) (standing : List (Standing S)) (workers : List WorkerView) (left : ℕ) (one : Standing S) (after : WorkerView) → TookAll settings standing workers → left + length workers + 1 ≡ length standing
    → slice_get standing left ≡ Some one → Took settings one after → TookAll settings standing (workers ++ after ∷ [])
took-push {S} settings standing workers left one after took both of is number place s w sum at there =
    ⊎_elim (λ before. took number place s w sum at before)
    (λ last.
    let same : place ≡ left = omega (arith, sum, both, last.0) in
    let who = same-at standing left one s of (subst (λ (k : ℕ). slice_get standing k ≡ Some s) same at) in
    subst (λ (v : WorkerView). Took settings s v) last.1 (subst (λ (t : Standing S). Took settings t after) who is))
    (get_push workers after number w there)
