use Rattle.std.proofs.Common.{◌≡◌, ℕ, ◌+◌, length, Some}
use Rattle.std.specs.Prelude.{slice_get}
use Rattle.std.specs.Vec.Iter.{into_iter_items}
use Rattle.xm_workers.specs.Workers.{WorkerView, fresh_worker, taken_by}
use Rattle.xm_segment.specs.Seats.{SeatView, fresh_seat}
use Rattle.xm_workers.proofs.shared_day.seated.Given as goal

abbrev pub invariant-loop-seat : goal.invariant-loop-seat
invariant-loop-seat g l =
    let left = into_iter_items l.seat-iterator in
    record {
      all : length l.workers.items + length left ≡ length l.fn.seats.items;
      each : (number : ℕ) (w : WorkerView) → slice_get l.workers.items number ≡ Some w → w ≡ fresh_worker g.S.Naming.settings number;
      left : (i : ℕ) (seat : SeatView) → slice_get left i ≡ Some seat → seat ≡ fresh_seat g.S.Naming.settings (length l.workers.items + i);
      none : taken_by l.workers.items ≡ 0;
    }
