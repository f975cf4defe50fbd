use Rattle.std.proofs.Common.{rules, ◌≡◌, ◌++◌, ◌∷◌, [], List, ap, append_assoc, arith, sym, ◌∙◌}
use Rattle.std.specs.Prelude.{map, sum_by}
use Rattle.std.specs.Vec.Iter.{into_iter_items}
use Rattle.std.proofs.lemmas.List.Sums.{sum_by-cons, sum_by_push}
use Rattle.xm_workers.proofs.Sharing.{sum-both}
use Rattle.xm_workers.specs.Workers.{WorkerView, accepted_by}
use Rattle.xm_replay.specs.declared.report.DayReport.{DayReport}
use Rattle.xm_segment.specs.Ledgers.{accepted_in}
use Rattle.xm_segment.specs.Seats.{SeatView}
use Rattle.xm_workers.proofs.shared_day.counted.Goals as goal

pub overflow_add-sum : goal.overflow_add-sum
overflow_add-sum g c =
    let rest = into_iter_items c.next.new.self in
    let left : into_iter_items c.loop-worker.worker-iterator ≡ c.in-Some.worker ∷ rest = search rules in
    let one = ap (λ (r : DayReport). r.accepted) c.into_parts-seat.ensures.report in
    let all = ap (λ (ws : List WorkerView). sum_by (λ (w : WorkerView). w.report.accepted) ws) left in
    omega (arith, c.loop-worker.invariant.accepted, all, sum_by-cons (λ (w : WorkerView). w.report.accepted) c.in-Some.worker rest, one, sum-both c.args.workers.items, c.requires)

pub overflow_add-sum-in-loop-worker : goal.overflow_add-sum-in-loop-worker
overflow_add-sum-in-loop-worker g c =
    let rest = into_iter_items c.next.new.self in
    let left : into_iter_items c.loop-worker.worker-iterator ≡ c.in-Some.worker ∷ rest = search rules in
    let one = ap (λ (r : DayReport). r.refused) c.into_parts-seat.ensures.report in
    let all = ap (λ (ws : List WorkerView). sum_by (λ (w : WorkerView). w.report.refused) ws) left in
    omega (arith, c.loop-worker.invariant.refused, all, sum_by-cons (λ (w : WorkerView). w.report.refused) c.in-Some.worker rest, one, sum-both c.args.workers.items, c.requires)

pub loop-worker-preserved : goal.loop-worker-preserved
loop-worker-preserved g c =
    let rest = into_iter_items c.next.new.self in
    let worker = c.in-Some.worker in
    let seat = c.into_parts-seat.result.0 in
    let seats = c.loop-worker.seats.items in
    let parts = c.into_parts-seat.ensures in
    let left : into_iter_items c.loop-worker.worker-iterator ≡ worker ∷ rest = search rules in
    let pushed : c.push.new.self.items ≡ seats ++ seat ∷ [] = search rules in
    let map_seat = (λ (ws : List WorkerView). map (λ (w : WorkerView). w.seat) ws) in
    let accepted = ap (λ (ws : List WorkerView). sum_by (λ (w : WorkerView). w.report.accepted) ws) left in
    let refused = ap (λ (ws : List WorkerView). sum_by (λ (w : WorkerView). w.report.refused) ws) left in
    let took = ap (λ (r : DayReport). r.accepted) parts.report in
    let lost = ap (λ (r : DayReport). r.refused) parts.report in
    let own = ap (λ (s : SeatView). accepted_in s.sums) parts.seat in
    record {
      seats =
          ap (λ (ss : List SeatView). ss ++ map_seat rest) pushed ∙ append_assoc seats (seat ∷ []) (map_seat rest)
          ∙ ap (λ (s : SeatView). seats ++ s ∷ map_seat rest) parts.seat ∙ ap (λ (ws : List WorkerView). seats ++ map_seat ws) (sym left) ∙ c.loop-worker.invariant.seats;
      ledgers = omega (arith, c.loop-worker.invariant.ledgers, ap accepted_by pushed, sum_by_push (λ (s : SeatView). accepted_in s.sums) seats seat, own, parts.accepted, took);
      accepted = omega (arith, c.loop-worker.invariant.accepted, accepted, sum_by-cons (λ (w : WorkerView). w.report.accepted) worker rest, took);
      refused = omega (arith, c.loop-worker.invariant.refused, refused, sum_by-cons (λ (w : WorkerView). w.report.refused) worker rest, lost);
    }
