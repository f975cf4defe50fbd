use Rattle.std.proofs.Common.{◌≡◌, ◌+◌, ◌++◌}
use Rattle.std.specs.Prelude.{map, sum_by}
use Rattle.std.specs.Vec.Iter.{into_iter_items}
use Rattle.xm_workers.specs.Workers.{WorkerView, accepted_by}
use Rattle.xm_workers.proofs.shared_day.counted.Given as goal

abbrev pub invariant-loop-worker : goal.invariant-loop-worker
invariant-loop-worker g l =
    let left = into_iter_items l.worker-iterator in
    let workers = l.fn.workers.items in
    record {
      seats : l.seats.items ++ map (λ (w : WorkerView). w.seat) left ≡ map (λ (w : WorkerView). w.seat) workers;
      ledgers : l.sum.accepted ≡ accepted_by l.seats.items;
      accepted : l.sum.accepted + sum_by (λ (w : WorkerView). w.report.accepted) left ≡ sum_by (λ (w : WorkerView). w.report.accepted) workers;
      refused : l.sum.refused + sum_by (λ (w : WorkerView). w.report.refused) left ≡ sum_by (λ (w : WorkerView). w.report.refused) workers;
    }
