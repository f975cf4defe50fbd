use Rattle.std.proofs.Common.{rules}
use Rattle.std.proofs.lemmas.List.Sorted.{IsNonDecreasingBy-from_sort_by_key}
use Rattle.xm_slots.specs.declared.entry.Entry.{Entry}
use Rattle.xm_rules.specs.declared.orders.Stop.{Stop}
use Rattle.xm_slots.proofs.InTime.{in-time}
use Rattle.xm_stops.proofs.stop_queues.StopQueues.in_time.Goals as goal

pub returns : goal.returns
returns g c =
    let q = c.self.inside in
    let kept = c.self.invariant in
    let sort = c.sort_unstable_by_key in
    let up = IsNonDecreasingBy-from_sort_by_key (λ (e : Entry Stop). e.time) sort.new.self.items sort.ensures.sorted (λ a r f k. search rules) in
    rw (← c.self.view_is) (in-time q.listing q.adds q.entries kept.queued.lie kept.queued.count kept.rise sort.new.self.items (rw c.in_ok-entries.ensures at sort.ensures.permutation) up)
