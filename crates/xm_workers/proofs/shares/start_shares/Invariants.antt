use Rattle.std.proofs.Common.{◌≡◌, ℕ, ◌+◌, length, Some}
use Rattle.std.specs.Prelude.{slice_get}
use Rattle.xm_workers.specs.Standing.{WillTakeAll, will_be_taken}
use Rattle.xm_workers.specs.Workers.{WorkerView, shared_out, taken_by}
use Rattle.xm_files.specs.Timetable.{share_of}
use Rattle.xm_workers.proofs.shares.start_shares.Given as goal

abbrev pub invariant-loop-worker : goal.invariant-loop-worker
invariant-loop-worker g l = record {
  all : length l.waiting.items + length l.standing.items ≡ l.count;
  first : (number : ℕ) (w : WorkerView) → slice_get l.waiting.items number ≡ Some w → slice_get l.fn.workers.items number ≡ Some w;
  each : WillTakeAll (λ number. share_of number l.count l.rows) l.fn.workers.items l.standing.items;
  taken : taken_by l.waiting.items + will_be_taken l.standing.items + shared_out (length l.waiting.items) l.count l.rows ≡ taken_by l.fn.workers.items + length l.rows;
}

abbrev pub decreases-loop-worker : goal.decreases-loop-worker
decreases-loop-worker g l = length l.waiting.items
