-- The day of a segment: its rows taken one after another.
use Rattle.std.specs.Prelude.{◌≡◌, ℕ, ◌+◌, List, [], ◌∷◌, ◌++◌, map, slice_get, slice_set, Option, Some, None, Result, Ok, Err}
use Rattle.xm_rules.specs.Opening.{opening}
use Rattle.xm_rules.specs.Refusals.{refusal_of}
use Rattle.xm_rules.specs.State.{State}
use Rattle.xm_rules.specs.Step.{Journal, replay, reply, step}
use Rattle.xm_rules.specs.declared.commands.Command.{Command}
use Rattle.xm_rules.specs.declared.replies.Refusal.{Refusal}
use Rattle.xm_rules.specs.declared.replies.Refusal.TheVariants.{UnknownSecurity}
use Rattle.xm_rules.specs.declared.replies.Reply.{Reply}
use Rattle.xm_config.specs.Opening.{settings_of}
use Rattle.xm_config.specs.declared.config.SecurityConfig.{SecurityConfig}
use Rattle.xm_config.specs.declared.config.SegmentConfig.{SegmentConfig}
use Rattle.xm_config.specs.declared.rows.Row.{Row}

-- the states of the securities, in index order, and how many rows were accepted and refused
pub record Day : Type 0 where
  pub states : List State
  pub accepted : ℕ
  pub refused : ℕ

abbrev pub opening_day : SegmentConfig → Day
opening_day config = record { states = map (λ (security : SecurityConfig). opening (settings_of config security)) config.securities; accepted = 0; refused = 0 }

-- a refused row is counted and changes nothing
abbrev pub answered : Day → Row → State → Option Refusal → Day
answered d row s None = record { states = slice_set d.states row.security (step s row.command); accepted = d.accepted + 1; refused = d.refused }
answered d row s (Some refusal) = record d { refused = d.refused + 1 }

-- a row of an unknown security is refused
abbrev pub on_security : Day → Row → Option State → Day
on_security d row None = record d { refused = d.refused + 1 }
on_security d row (Some s) = answered d row s (refusal_of s row.command)

abbrev pub after_row : Day → Row → Day
after_row d row = on_security d row (slice_get d.states row.security)

abbrev pub after_rows : Day → List Row → Day
after_rows d [] = d
after_rows d (row ∷ rows) = after_rows (after_row d row) rows

-- what a state answers to a command that it refuses for this reason, if it does: else the reply to its step
abbrev pub answer_by : State → Command → Option Refusal → Result Reply Refusal
answer_by s command None = Ok (reply s (step s command))
answer_by s command (Some refusal) = Err refusal

abbrev pub answer_on : Row → Option State → Result Reply Refusal
answer_on row None = Err UnknownSecurity
answer_on row (Some s) = answer_by s row.command (refusal_of s row.command)

-- what these securities answer to a row
abbrev pub row_answer : List State → Row → Result Reply Refusal
row_answer states row = answer_on row (slice_get states row.security)

-- what a day tells of a row: by the row and its text, the answer to it, and the state of its security behind it
abbrev pub told_behind : (Row → List ℕ → Result Reply Refusal → Option State → List ℕ) → (ℕ → List ℕ) → Day → Row → List ℕ
told_behind tells texts d row = tells row (texts row.line) (row_answer d.states row) (slice_get (after_row d row).states row.security)

-- of rows that it takes one after another, by what it tells of one
abbrev pub told_of_rows : (Day → Row → List ℕ) → Day → List Row → List ℕ
told_of_rows told d [] = []
told_of_rows told d (row ∷ rows) = told d row ++ told_of_rows told (after_row d row) rows

-- the day with one row more counted, which was answered so
abbrev pub counted : Day → Result Reply Refusal → Day
counted d (Ok reply) = record d { accepted = d.accepted + 1 }
counted d (Err refusal) = record d { refused = d.refused + 1 }

-- the day would accept the row: its security is known, and nothing refuses its command
pub record Accepts (d : Day) (row : Row) : Type 0 where
  pub state : State
  pub known : slice_get d.states row.security ≡ Some state
  pub passes : refusal_of state row.command ≡ None

-- memory is wanting at one of the rows, which comes after those before it and would be accepted
pub record LacksMemoryAt (d : Day) (rows : List Row) : Type 0 where
  pub before : List Row
  pub row : Row
  pub more : List Row
  pub rows_are : before ++ row ∷ more ≡ rows
  pub accepts : Accepts (after_rows d before) row

-- the day of the rows
abbrev pub day : SegmentConfig → List Row → Day
day config rows = after_rows (opening_day config) rows

-- the day of desks, seen as their journals, and of these counts
abbrev pub day_of : List Journal → ℕ → ℕ → Day
day_of desks accepted refused = record { states = map replay desks; accepted = accepted; refused = refused }
