-- A day that workers share.
use Rattle.std.specs.Prelude.{◌≡◌, ℕ, zero, suc, ◌+◌, ◌≤◌, ◌%◌, ◌==◌, Bool, true, not, List, [], ◌∷◌, ◌++◌, count_by, filter, length, map, slice_get, sum_by, MatchBool, Some, None, Result, Ok, Err, is_ok, is_err}
use Rattle.std.specs.List.{list_all}
use Rattle.std.specs.Option.{option_map_or}
use Rattle.xm_board.specs.Journals.{Begins, entry_of, grown, opening_of, unnumbered}
use Rattle.xm_board.specs.declared.journal.NumberedJournal.{NumberedJournal}
use Rattle.xm_replay.specs.Taken.{IsOpenFault, commands_in}
use Rattle.xm_config.specs.Day.{Day}
use Rattle.xm_replay.specs.declared.faults.DayFault.{DayFault}
use Rattle.xm_replay.specs.declared.faults.DayFault.TheVariants.{Open, OutOfMemory}
use Rattle.xm_replay.specs.declared.report.DayReport.{DayReport}
use Rattle.xm_config.specs.declared.opening.OpenFault.{OpenFault}
use Rattle.xm_files.specs.Orders.{max_rows}
use Rattle.xm_files.specs.Timetable.{share_of}
use Rattle.xm_rules.specs.Commands.{member_of}
use Rattle.xm_rules.specs.Step.{Journal, is_lawful, replay}
use Rattle.xm_rules.specs.declared.commands.Command.{Command}
use Rattle.xm_rules.specs.declared.replies.Refusal.{Refusal}
use Rattle.xm_rules.specs.declared.replies.Refusal.TheVariants.{UnknownSecurity}
use Rattle.xm_rules.specs.declared.replies.Reply.{Reply}
use Rattle.xm_rules.specs.declared.settings.DeskSettings.{DeskSettings}
use Rattle.xm_segment.specs.Answers.{IsAnswer}
use Rattle.xm_config.specs.Opening.{segment_fault, settings_of}
use Rattle.xm_segment.specs.Ledgers.{accepted_in}
use Rattle.xm_segment.specs.Names.{UnnamedSegment}
use Rattle.xm_segment.specs.Seats.{SeatView, WereAnswered, fresh_seat, lacks_memory}
use Rattle.xm_config.specs.declared.config.SegmentConfig.{SegmentConfig}
use Rattle.xm_config.specs.declared.rows.Row.{Row}

-- there is a journal for each of some settings, which is lawful and was opened with them
abbrev pub AreJournals : List DeskSettings → List Journal → Type 0
AreJournals [] [] = Unit {0}
AreJournals (opened ∷ more) (journal ∷ journals) = (journal.settings ≡ opened) × (is_lawful journal ≡ true) × AreJournals more journals
AreJournals _ _ = ⊥

-- a worker takes the rows of the members whose index leaves its number, divided by the number of workers. The first also takes
-- those of the phases
abbrev pub is_taken_by : ℕ → ℕ → Row → Bool
is_taken_by worker workers row = option_map_or (λ member. (member % workers) == worker) (member_of row.command) (worker == 0)

-- the rows that a worker takes, in the order of the file
abbrev pub rows_of : ℕ → ℕ → List Row → List Row
rows_of worker workers rows = filter (is_taken_by worker workers) rows

-- a journal after it answered to a command: an accepted one is its next entry, with the number of who gave it
abbrev pub after_answer : NumberedJournal → ℕ → Command → Result Reply Refusal → NumberedJournal
after_answer journal number command (Ok reply) = grown journal (entry_of number command)
after_answer journal number command (Err refusal) = journal

-- those of some rows that are of this security, in their order, stand with their answers in its journal, behind a beginning of it
-- that was seen: each was answered at a later beginning, and what follows comes after its entry
abbrev pub StandOn : ℕ → ℕ → NumberedJournal → List Row → List (Result Reply Refusal) → NumberedJournal → Type 0
StandOn security number seen [] [] journal = Begins seen journal
StandOn security number seen (row ∷ rows) (answer ∷ answers) journal =
    MatchBool (row.security == security)
    ((at : NumberedJournal) × Begins seen at × IsAnswer (replay (unnumbered at)) row.command answer
    × StandOn security number (after_answer at number row.command answer) rows answers journal)
    (StandOn security number seen rows answers journal)
StandOn security number seen _ _ journal = ⊥

-- each row has an answer, and that of a security without a journal is refused, since it is unknown
abbrev pub AreKnown : List NumberedJournal → List Row → List (Result Reply Refusal) → Type 0
AreKnown journals [] [] = Unit {0}
AreKnown journals (row ∷ rows) (answer ∷ answers) = (slice_get journals row.security ≡ None → answer ≡ Err UnknownSecurity) × AreKnown journals rows answers
AreKnown journals _ _ = ⊥

abbrev pub accepted_among : List (Result Reply Refusal) → ℕ
accepted_among answers = count_by (λ answer. is_ok answer) answers

abbrev pub refused_among : List (Result Reply Refusal) → ℕ
refused_among answers = count_by (λ answer. is_err answer) answers

-- memory was wanting for none of the answers
abbrev pub had_memory : List (Result Reply Refusal) → Bool
had_memory answers = list_all (λ answer. not (lacks_memory answer)) answers

-- the rows that the worker with this number took, in their order: what was answered to them stands in the journals of their
-- securities from the opening on, none of it for want of memory, and is what the report counts
pub record HaveStood (journals : List NumberedJournal) (number : ℕ) (rows : List Row) (report : DayReport) : Type 0 where
  pub answers : List (Result Reply Refusal)
  pub stand : (security : ℕ) (journal : NumberedJournal) → slice_get journals security ≡ Some journal → StandOn security number (opening_of journal.settings) rows answers journal
  pub known : AreKnown journals rows answers
  pub memory : had_memory answers ≡ true
  pub accepted : report.accepted ≡ accepted_among answers
  pub refused : report.refused ≡ refused_among answers

-- the day of rows that so many workers shared, each row's order known among those of its worker: there is a lawful journal for
-- each security, opened with its settings, each command with the number of the worker that entered it. What was accepted are the
-- journals' commands, each row was accepted or refused, and each worker's rows stand in the journals
pub record IsShared (workers : ℕ) (config : SegmentConfig) (rows : List Row) (d : Day) : Type 0 where
  pub journals : List NumberedJournal
  pub opened : AreJournals (map (settings_of config) config.securities) (map unnumbered journals)
  pub states : d.states ≡ map replay (map unnumbered journals)
  pub accepted : d.accepted ≡ commands_in (map unnumbered journals)
  pub all : d.accepted + d.refused ≡ length rows
  pub reports : List DayReport
  pub each : length reports ≡ workers
  pub stand : (worker : ℕ) (report : DayReport) → slice_get reports worker ≡ Some report → HaveStood journals worker (rows_of worker workers rows) report
  pub sum_accepted : d.accepted ≡ sum_by (λ (r : DayReport). r.accepted) reports
  pub sum_refused : d.refused ≡ sum_by (λ (r : DayReport). r.refused) reports

-- how many rows were taken
abbrev pub taken_in : DayReport → ℕ
taken_in report = report.accepted + report.refused

-- a worker: its seat, and what became of its rows so far
pub record WorkerView : Type 0 where
  pub seat : SeatView
  pub report : DayReport

abbrev pub fresh_worker : List DeskSettings → ℕ → WorkerView
fresh_worker settings number = record { seat = fresh_seat settings number; report = record { accepted = 0; refused = 0 } }

-- a worker before and after it took rows, in their order
pub record HasWorked (settings : List DeskSettings) (rows : List Row) (before after : WorkerView) : Type 0 where
  pub answers : List (Result Reply Refusal)
  pub answered : WereAnswered settings before.seat rows answers after.seat
  pub memory : had_memory answers ≡ true
  pub accepted : after.report.accepted ≡ before.report.accepted + accepted_among answers
  pub all : taken_in after.report ≡ taken_in before.report + length rows

-- workers before and after each took its rows
pub record HaveWorked (settings : List DeskSettings) (rows : ℕ → List Row) (before after : List WorkerView) : Type 0 where
  pub all : length after ≡ length before
  pub each : (number : ℕ) (b a : WorkerView) → slice_get before number ≡ Some b → slice_get after number ≡ Some a → HasWorked settings (rows number) b a

-- the most rows that the order files of a day stand for: 256 files have so many
abbrev pub max_day_rows : ℕ
max_day_rows = 256000000

-- so many rows of a day were taken, and it has so many more at most, which are of one file
abbrev pub HasRoomBehind : ℕ → ℕ → Type 0
HasRoomBehind taken more = (taken + more ≤ max_day_rows) × (more ≤ max_rows)

-- how many rows workers have taken
abbrev pub taken_by : List WorkerView → ℕ
taken_by workers = sum_by (λ (w : WorkerView). taken_in w.report) workers

-- what the accepted rows of all seats are
abbrev pub accepted_by : List SeatView → ℕ
accepted_by seats = sum_by (λ (s : SeatView). accepted_in s.sums) seats

-- how many rows the shares of the first workers have
abbrev pub shared_out : ℕ → ℕ → List Row → ℕ
shared_out zero workers rows = 0
shared_out (suc worker) workers rows = shared_out worker workers rows + length (share_of worker workers rows)

-- so many workers, with the numbers from 0 on, have taken these rows on a segment with these settings, each its own
pub record HaveTaken (settings : List DeskSettings) (workers : ℕ) (config : SegmentConfig) (rows : List Row) (taken : List WorkerView) : Type 0 where
  pub sound : segment_fault config ≡ None
  pub opened : settings ≡ map (settings_of config) config.securities
  pub each : length taken ≡ workers
  pub worked : (number : ℕ) (w : WorkerView) → slice_get taken number ≡ Some w → HasWorked settings (rows_of number workers rows) (fresh_worker settings number) w
  pub all : taken_by taken ≡ length rows

-- workers have taken these rows, unless the segment can't be opened or memory is wanting
abbrev pub HasShared : List DeskSettings → ℕ → SegmentConfig → List Row → Result (List WorkerView) DayFault → Type 0
HasShared settings workers config rows (Ok taken) = HaveTaken settings workers config rows taken
HasShared settings workers config rows (Err (Open fault)) = IsOpenFault config fault
HasShared settings workers config rows (Err (OutOfMemory _)) = segment_fault config ≡ None
HasShared settings workers config rows (Err fault) = ⊥

-- how many rows workers have taken, where nothing went wrong
abbrev pub shared_so_far : Result (List WorkerView) DayFault → ℕ
shared_so_far (Ok taken) = taken_by taken
shared_so_far (Err fault) = 0

-- where workers had taken any rows, they have taken these as well
abbrev pub SharesOn : List DeskSettings → ℕ → Result (List WorkerView) DayFault → SegmentConfig → List Row → Result (List WorkerView) DayFault → Type 0
SharesOn settings workers before config rows after = (earlier : List Row) → HasShared settings workers config earlier before → HasShared settings workers config (earlier ++ rows) after

-- a segment was opened for so many workers, unless it can't be or memory is wanting
abbrev pub HasOpened : SegmentConfig → ℕ → Result UnnamedSegment OpenFault → Type 0
HasOpened config workers (Ok opened) = (segment_fault config ≡ None) × (opened.settings ≡ map (settings_of config) config.securities) × (opened.workers ≡ workers)
HasOpened config workers (Err fault) = IsOpenFault config fault
