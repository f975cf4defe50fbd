-- A worker's seat, and what answers to its rows leave there.
use Rattle.std.specs.Prelude.{◌≡◌, ℕ, ◌+◌, Bool, true, false, List, [], ◌∷◌, Option, Result, Err, MatchBool, Some, length, slice_get}
use Rattle.xm_rules.specs.declared.commands.Command.{Command}
use Rattle.xm_rules.specs.declared.replies.Quote.{Quote}
use Rattle.xm_rules.specs.declared.replies.Refusal.{Refusal}
use Rattle.xm_rules.specs.declared.replies.Refusal.TheVariants.{OutOfMemory}
use Rattle.xm_rules.specs.declared.replies.Reply.{Reply}
use Rattle.xm_rules.specs.declared.settings.DeskSettings.{DeskSettings}
use Rattle.xm_segment.specs.Answers.{IsAnsweredOn, IsShownOn}
use Rattle.xm_segment.specs.Ledgers.{Sums, nothing_counted, with_answer_on}
use Rattle.xm_segment.specs.Watches.{RowView, fresh_row}
use Rattle.xm_config.specs.declared.rows.Row.{Row}

-- the worker's number, of each of eight lanes what its accepted commands counted there, and its row of watches
pub record SeatView : Type 0 where
  pub number : ℕ
  pub sums : List Sums
  pub row : RowView

-- the seat with this number as it opens: nothing is counted, seen or own
abbrev pub fresh_seat : List DeskSettings → ℕ → SeatView
fresh_seat settings number = record { number = number; sums = nothing_counted; row = fresh_row settings number }

-- a seat for each worker, with the numbers from 0 on
pub record AreSeats (settings : List DeskSettings) (workers : ℕ) (seats : List SeatView) : Type 0 where
  pub all : length seats ≡ workers
  pub each : (i : ℕ) (seat : SeatView) → slice_get seats i ≡ Some seat → seat ≡ fresh_seat settings i

-- a row for each watcher, with the numbers from the first on
pub record AreRows (settings : List DeskSettings) (first watchers : ℕ) (rows : List RowView) : Type 0 where
  pub all : length rows ≡ watchers
  pub each : (i : ℕ) (row : RowView) → slice_get rows i ≡ Some row → row ≡ fresh_row settings (first + i)

-- a row before and after the watch of the security with this index was read
pub record IsRead (settings : List DeskSettings) (security : ℕ) (shown : Option Quote) (before after : RowView) : Type 0 where
  pub number : after.number ≡ before.number
  pub watches : IsShownOn security (slice_get settings security) shown before.watches after.watches

-- a seat before and after the security with this index answered to a command: an accepted one raises the seat's sums of the
-- security by one, its reply's quantity and its money
pub record IsTaken (settings : List DeskSettings) (security : ℕ) (command : Command) (answer : Result Reply Refusal) (before after : SeatView) : Type 0 where
  pub number : after.number ≡ before.number
  pub sums : after.sums ≡ with_answer_on security before.sums answer
  pub row_number : after.row.number ≡ before.row.number
  pub watches : IsAnsweredOn security (slice_get settings security) command answer before.row.watches after.row.watches

abbrev pub lacks_memory : Result Reply Refusal → Bool
lacks_memory (Err (OutOfMemory _)) = true
lacks_memory _ = false

-- a seat before and after its rows were answered, in their order, up to the first that lacked memory
abbrev pub WereAnswered : List DeskSettings → SeatView → List Row → List (Result Reply Refusal) → SeatView → Type 0
WereAnswered settings before [] [] after = after ≡ before
WereAnswered settings before (row ∷ rows) (answer ∷ answers) after =
    (next : SeatView) × IsTaken settings row.security row.command answer before next
    × MatchBool (lacks_memory answer) ((answers ≡ []) × (after ≡ next)) (WereAnswered settings next rows answers after)
WereAnswered settings before _ _ after = ⊥
