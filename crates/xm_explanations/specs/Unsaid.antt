-- What a statement leaves unsaid of the rows of a day: why rows were refused, and which securities haven't ended.
use Rattle.std.specs.Prelude.{ℕ, ◌+◌, ◌==◌, Bool, if◌then◌else◌, List, [], ◌∷◌, ◌++◌, map, get_or, sum_by, slice_get, slice_set, Option, Some, None, Result, Ok, Err}
use Rattle.std.specs.List.{position}
use Rattle.std.specs.Str.{bytes_eq}
use Rattle.xm_config.specs.Day.{Day, after_row, opening_day, row_answer}
use Rattle.xm_config.specs.declared.config.SecurityConfig.{SecurityConfig}
use Rattle.xm_config.specs.declared.config.SegmentConfig.{SegmentConfig}
use Rattle.xm_config.specs.declared.rows.Row.{Row}
use Rattle.xm_explanations.specs.declared.unsaid.RefusedRows.{RefusedRows}
use Rattle.xm_explanations.specs.declared.unsaid.Standing.{Standing}
use Rattle.xm_explanations.specs.declared.unsaid.UnsaidRows.{UnsaidRows}
use Rattle.xm_observers.specs.Observed.{seen_of_rows}
use Rattle.xm_rules.specs.Refusals.{refusal_place}
use Rattle.xm_rules.specs.State.{State}
use Rattle.xm_rules.specs.declared.phases.Phase.{Phase}
use Rattle.xm_rules.specs.declared.phases.Phase.TheVariants.{PreTrading}
use Rattle.xm_rules.specs.declared.replies.Refusal.{Refusal}
use Rattle.xm_rules.specs.declared.replies.Reply.{Reply}
use Rattle.xm_texts.specs.Statement.{phase_word}

-- the refused rows by their refusals, in the order in which these came first; of each security the phase, and the record since which it stands
pub record Unsaid : Type 0 where
  pub refused : List RefusedRows
  pub standing : List Standing

-- what rows were seen to leave unsaid
abbrev pub unsaid_in : UnsaidRows → Unsaid
unsaid_in u = record { refused = u.refused.items; standing = u.standing.items }

-- ---- refused rows

abbrev pub is_refused_so : Refusal → RefusedRows → Bool
is_refused_so refusal r = refusal_place refusal == refusal_place r.refusal

abbrev pub with_one_row : RefusedRows → RefusedRows
with_one_row r = record r { rows = r.rows + 1 }

-- with one row more that was refused so, the record with this number, by where others are that were
abbrev pub refused_at : List RefusedRows → Refusal → ℕ → Option ℕ → List RefusedRows
refused_at refused refusal line None = refused ++ record { refusal = refusal; rows = 1; first = line } ∷ []
refused_at refused refusal line (Some i) = slice_set refused i (with_one_row (get_or refused i (record { refusal = refusal; rows = 0; first = line })))

abbrev pub with_refused : List RefusedRows → Refusal → ℕ → List RefusedRows
with_refused refused refusal line = refused_at refused refusal line (position (is_refused_so refusal) refused)

abbrev pub refused_behind : List RefusedRows → ℕ → Result Reply Refusal → List RefusedRows
refused_behind refused line (Ok reply) = refused
refused_behind refused line (Err refusal) = with_refused refused refusal line

-- how many rows were refused
abbrev pub all_refused : List RefusedRows → ℕ
all_refused refused = sum_by (λ (r : RefusedRows). r.rows) refused

-- ---- phases

-- where a security stands whose phase is this one behind a record
abbrev pub stands_behind : Phase → ℕ → Standing → Standing
stands_behind phase line s = if bytes_eq (phase_word phase) (phase_word s.phase) then s else record { phase = phase; since = line }

abbrev pub standing_at : List Standing → ℕ → Phase → ℕ → Option Standing → List Standing
standing_at standing security phase line None = standing
standing_at standing security phase line (Some s) = slice_set standing security (stands_behind phase line s)

-- the security of a row stands so behind it, if there is such a security
abbrev pub standing_behind : List Standing → Row → Option State → List Standing
standing_behind standing row None = standing
standing_behind standing row (Some s) = standing_at standing row.security s.phase row.line (slice_get standing row.security)

-- ---- of the rows of a day

abbrev pub next_unsaid : Unsaid → Day → Row → Unsaid
next_unsaid seen d row = record {
  refused = refused_behind seen.refused row.line (row_answer d.states row);
  standing = standing_behind seen.standing row (slice_get (after_row d row).states row.security);
}

-- before the first row each security stands before its trading, since no record
abbrev pub nothing_unsaid : SegmentConfig → Unsaid
nothing_unsaid config = record { refused = []; standing = map (λ (s : SecurityConfig). record { phase = PreTrading; since = 0 }) config.securities }

abbrev pub unsaid_of : SegmentConfig → List Row → Unsaid
unsaid_of config rows = seen_of_rows next_unsaid (nothing_unsaid config) (opening_day config) rows
