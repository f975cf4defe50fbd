-- What a worker's report counts.
use Rattle.std.specs.Prelude.{ℕ, ◌+◌, ◌<◌, ◌^◌, List, [], ◌∷◌, slice_index, slice_set, Option, None, Some, Result, Ok, Err}
use Rattle.xm_rules.specs.declared.replies.Refusal.{Refusal}
use Rattle.xm_rules.specs.Refusals.{refusal_place}
use Rattle.xm_rules.specs.declared.replies.Refusal.TheVariants.{OutOfMemory}
use Rattle.xm_rules.specs.declared.replies.Reply.{Reply}
use Rattle.xm_segment.specs.declared.working.WorkerReport.{WorkerReport}

abbrev pub no_report : WorkerReport
no_report = record { accepted = 0; refused = 0 ∷ 0 ∷ 0 ∷ 0 ∷ 0 ∷ 0 ∷ 0 ∷ 0 ∷ 0 ∷ 0 ∷ 0 ∷ 0 ∷ 0 ∷ 0 ∷ 0 ∷ []; quantity = 0; wanting = None }

-- a report with one more at this place
abbrev pub raised_at : ℕ → List ℕ → List ℕ
raised_at place counts = slice_set counts place (slice_index counts place + 1)

-- the want of memory that a refusal is, if it is one
abbrev pub wanting_in : Refusal → Option (Unit {0})
wanting_in (OutOfMemory error) = Some error
wanting_in _ = None

-- a report with an answer more: an accepted row with what it traded, or a refused one at its refusal's place
abbrev pub with_answer_in : WorkerReport → Result Reply Refusal → WorkerReport
with_answer_in r (Ok reply) = record r { accepted = r.accepted + 1; quantity = r.quantity + reply.quantity }
with_answer_in r (Err refusal) = record r { refused = raised_at (refusal_place refusal) r.refused; wanting = wanting_in refusal }

-- one answer more can be counted
abbrev pub HasRoomIn : WorkerReport → Result Reply Refusal → Type 0
HasRoomIn r (Ok reply) = (r.accepted + 1 < 2 ^ 64) × (r.quantity + reply.quantity < 2 ^ 64)
HasRoomIn r (Err refusal) = slice_index r.refused (refusal_place refusal) + 1 < 2 ^ 64

abbrev pub report_from : WorkerReport → List (Result Reply Refusal) → WorkerReport
report_from r [] = r
report_from r (answer ∷ answers) = report_from (with_answer_in r answer) answers

-- the report of some answers
abbrev pub report_of : List (Result Reply Refusal) → WorkerReport
report_of answers = report_from no_report answers
