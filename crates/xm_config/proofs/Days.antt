-- The day of desks that take rows.
use Rattle.std.proofs.Common.{◌≡◌, ℕ, ◌+◌, ◌<◌, ◌≤◌, List, [], ◌∷◌, ◌++◌, length, map, slice_get, set, get_or, take, drop, take-append-drop, suc, arith, Some, None, Ok, Err, option_map, refl, ap, sym, subst, ◌∙◌}
use Rattle.std.proofs.Math.Seq.{drop-cons, take-length}
use Rattle.std.proofs.Math.ListN.{drop_of_length-le}
use Rattle.std.proofs.lemmas.List.{append-nil, append_assoc, map-set, take_more}
use Rattle.std.proofs.lemmas.Option.{slice_get-map, slice_get_past}
use Rattle.xm_rules.proofs.Journals.{replay-opening, replay-push}
use Rattle.xm_rules.specs.Opening.{opening}
use Rattle.xm_rules.specs.Refusals.{refusal_of}
use Rattle.xm_rules.specs.State.{State}
use Rattle.xm_rules.specs.Step.{Journal, replay, reply, step}
use Rattle.xm_rules.specs.declared.commands.Command.{Command}
use Rattle.xm_rules.specs.declared.replies.Refusal.{Refusal}
use Rattle.xm_rules.specs.declared.replies.Refusal.TheVariants.{UnknownSecurity}
use Rattle.xm_config.specs.Day.{Accepts, Day as TheDay, LacksMemoryAt, after_row, after_rows, answer_by, answer_on, answered, day, day_of, on_security, row_answer}
use Rattle.xm_config.specs.Opening.{journal_of, settings_of}
use Rattle.xm_config.specs.declared.config.SecurityConfig.{SecurityConfig}
use Rattle.xm_config.specs.declared.config.SegmentConfig.{SegmentConfig}
use Rattle.xm_config.specs.declared.rows.Row.{Row}

abbrev pub with_command : Journal → Command → Journal
with_command j c = record j { commands = j.commands ++ c ∷ [] }

-- a row of an unknown security is refused as such
pub answers-unknown : (js : List Journal) (row : Row) → length js ≤ row.security → row_answer (map replay js) row ≡ Err UnknownSecurity
answers-unknown js row past = ap (answer_on row) (slice_get-map replay js row.security ∙ ap (option_map replay) (slice_get_past js row.security past))

-- one of a known security is answered as its desk answers the command
answers-known : (js : List Journal) (row : Row) (j : Journal) → slice_get js row.security ≡ Some j → row_answer (map replay js) row ≡ answer_by (replay j) row.command (refusal_of (replay j) row.command)
answers-known js row j is = ap (answer_on row) (slice_get-map replay js row.security ∙ ap (option_map replay) is)

-- a state answers so to a command that it accepts
pub accepts-so : (row : Row) (j next : Journal) → refusal_of (replay j) row.command ≡ None → next ≡ with_command j row.command → answer_on row (Some (replay j)) ≡ Ok (reply (replay j) (replay next))
accepts-so row j next passes journal = ap (answer_by (replay j) row.command) passes ∙ ap (λ (t : State). Ok (reply (replay j) t)) (sym (ap replay journal ∙ replay-push j row.command))

pub answers-accepted : (js : List Journal) (row : Row) (j next : Journal) → slice_get js row.security ≡ Some j → refusal_of (replay j) row.command ≡ None → next ≡ with_command j row.command
    → row_answer (map replay js) row ≡ Ok (reply (replay j) (replay next))
answers-accepted js row j next is passes journal = answers-known js row j is ∙ accepts-so row j next passes journal

pub answers-refused : (js : List Journal) (row : Row) (j : Journal) (refusal : Refusal) → slice_get js row.security ≡ Some j → refusal_of (replay j) row.command ≡ Some refusal → row_answer (map replay js) row ≡ Err refusal
answers-refused js row j refusal is refuses = answers-known js row j is ∙ ap (answer_by (replay j) row.command) refuses

pub on_unknown : (js : List Journal) (row : Row) (a r : ℕ) → length js ≤ row.security → after_row (day_of js a r) row ≡ day_of js a (r + 1)
on_unknown js row a r past =
    let none : slice_get (map replay js) row.security ≡ None = slice_get-map replay js row.security ∙ ap (option_map replay) (slice_get_past js row.security past) in
    ap (on_security (day_of js a r) row) none

found : (js : List Journal) (row : Row) (j : Journal) (a r : ℕ) → slice_get js row.security ≡ Some j → after_row (day_of js a r) row ≡ answered (day_of js a r) row (replay j) (refusal_of (replay j) row.command)
found js row j a r is =
    let some : slice_get (map replay js) row.security ≡ Some (replay j) = slice_get-map replay js row.security ∙ ap (option_map replay) is in
    ap (on_security (day_of js a r) row) some

pub on_refused : (js : List Journal) (row : Row) (j : Journal) (refusal : Refusal) (a r : ℕ) → slice_get js row.security ≡ Some j → refusal_of (replay j) row.command ≡ Some refusal
    → after_row (day_of js a r) row ≡ day_of js a (r + 1)
on_refused js row j refusal a r is refuses = found js row j a r is ∙ ap (answered (day_of js a r) row (replay j)) refuses

pub on_accepted : (js : List Journal) (row : Row) (j : Journal) (a r : ℕ) → slice_get js row.security ≡ Some j → refusal_of (replay j) row.command ≡ None
    → after_row (day_of js a r) row ≡ day_of (set js row.security (with_command j row.command)) (a + 1) r
on_accepted js row j a r is passes =
    let states = map-set replay js row.security (with_command j row.command) ∙ ap (set (map replay js) row.security) (replay-push j row.command) in
    found js row j a r is ∙ ap (answered (day_of js a r) row (replay j)) passes ∙ ap (λ (ss : List State). record { states = ss; accepted = a + 1; refused = r }) (sym states)

-- the day of some rows, and of more
pub after_rows-append : (d : TheDay) (rows more : List Row) → after_rows d (rows ++ more) ≡ after_rows (after_rows d rows) more
after_rows-append d [] more = refl
after_rows-append d (row ∷ rows) more = after_rows-append (after_row d row) rows more

-- a row more
pub rows-step : (begun : TheDay) (desks : List Journal) (rows : List Row) (i : ℕ) (row : Row) (a r : ℕ) (next : TheDay) → i < length rows → day_of desks a r ≡ after_rows begun (take i rows)
    → after_row (day_of desks a r) (get_or rows i row) ≡ next → next ≡ after_rows begun (take (i + 1) rows)
rows-step begun desks rows i row a r next within so_far step =
    sym step
    ∙ ap (λ (d : TheDay). after_row d (get_or rows i row)) so_far
    ∙ sym (after_rows-append begun (take i rows) (get_or rows i row ∷ []))
    ∙ ap (after_rows begun) (sym (take_more rows i row within))

-- memory was wanting at a row
pub rows-lack : (begun : TheDay) (desks : List Journal) (rows : List Row) (i : ℕ) (row : Row) (a r : ℕ) → i < length rows → day_of desks a r ≡ after_rows begun (take i rows)
    → Accepts (day_of desks a r) (get_or rows i row) → LacksMemoryAt begun rows
rows-lack begun desks rows i row a r within so_far accepts =
    let At : TheDay → Type 0 = λ d. Accepts d (get_or rows i row) in
    record {
      before = take i rows;
      row = get_or rows i row;
      more = drop (suc i) rows;
      rows_are = ap (λ (xs : List Row). take i rows ++ xs) (sym (drop-cons rows i row within)) ∙ take-append-drop i rows;
      accepts = subst At so_far accepts;
    }

-- memory that is wanting at some rows is so where others were taken before them
pub lacks-later : (d : TheDay) (taken rows : List Row) → LacksMemoryAt (after_rows d taken) rows → LacksMemoryAt d (taken ++ rows)
lacks-later d taken rows lacks =
    let At : TheDay → Type 0 = λ later. Accepts later lacks.row in
    record {
      before = taken ++ lacks.before;
      row = lacks.row;
      more = lacks.more;
      rows_are = append_assoc taken lacks.before (lacks.row ∷ lacks.more) ∙ ap (λ (xs : List Row). taken ++ xs) lacks.rows_are;
      accepts = subst At (sym (after_rows-append d taken lacks.before)) lacks.accepts;
    }

-- a desk that is known
pub accepts-known : (js : List Journal) (row : Row) (j : Journal) (a r : ℕ) → slice_get js row.security ≡ Some j → refusal_of (replay j) row.command ≡ None → Accepts (day_of js a r) row
accepts-known js row j a r is passes = record { state = replay j; known = slice_get-map replay js row.security ∙ ap (option_map replay) is; passes = passes }

-- the desks of a segment begin its day
pub opened-day : (config : SegmentConfig) (securities : List SecurityConfig) → map replay (map (journal_of config) securities) ≡ map (λ (security : SecurityConfig). opening (settings_of config security)) securities
opened-day config [] = refl
opened-day config (security ∷ more) =
    ap (λ (s : State). s ∷ map replay (map (journal_of config) more)) (replay-opening (settings_of config security))
    ∙ ap (λ (ss : List State). opening (settings_of config security) ∷ ss) (opened-day config more)

-- a slice that was lent whole comes back whole
pub lent_back : {X : Type 0} (new old : List X) (n : ℕ) → length new ≡ length old → n ≡ length old → take n (new ++ drop (length new) old) ≡ new
lent_back new old n kept whole =
    let none : drop (length new) old ≡ [] = drop_of_length-le old (omega arith) in
    ap (λ xs. take n (new ++ xs)) none ∙ ap (take n) (append-nil new) ∙ ap (λ (k : ℕ). take k new) (whole ∙ sym kept) ∙ take-length new

-- desks that were opened for a segment begin its day
pub day-opened : (config : SegmentConfig) (opened : List Journal) → opened ≡ map (journal_of config) config.securities → day_of opened 0 0 ≡ day config []
day-opened config opened begin =
    ap (λ (js : List Journal). day_of js 0 0) begin ∙ ap (λ (ss : List State). record { states = ss; accepted = 0; refused = 0 }) (opened-day config config.securities)
