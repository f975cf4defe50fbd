use Rattle.xm_rules.specs.declared.orders.Stop.{Stop}
use Rattle.std.proofs.Common.{◌≡◌, ◌≤◌, ◌+◌, length, rules, ap, arith}
use Rattle.std.proofs.lemmas.List.{length-drop}
use Rattle.std.proofs.lemmas.List.Sorted.{IsNonDecreasingBy-from_sort_by_key}
use Rattle.xm_stops.specs.Pending.{EntriesView}
use Rattle.xm_slots.specs.declared.entry.Entry.{Entry}
use Rattle.xm_stops.proofs.Tails.{sorted-behind}
use Rattle.xm_stops.proofs.entry_queue.EntryQueue.sort_behind.Goals as goal

pub returns-clause-sorted : goal.returns-clause-sorted
returns-clause-sorted g c =
    let q = c.self.inside in
    let sort = c.sort_unstable_by_key in
    let up = IsNonDecreasingBy-from_sort_by_key (λ (e : Entry Stop). e.time) sort.new.self sort.ensures.sorted (λ a r f k. search rules) in
    let long : q.entries.len ≡ length q.entries.items = q.entries.ok.0 in
    let within : q.head + c.args.ahead ≤ length q.entries.items =
    omega (arith, c.requires, ap (λ (v : EntriesView). length v.entries) c.self.view_is, length-drop q.head q.entries.items, long, c.self.invariant.0) in
    rw (← c.self.view_is, c.deref_mut.ensures.value) (sorted-behind q.entries.items sort.new.self q.head c.args.ahead within (rw c.deref_mut.ensures.value at sort.ensures.permutation) _ q.entries.len long up)
