use Rattle.std.proofs.Common.{arith}
use Rattle.xm_slots.proofs.SlotKeys.{left-count, left-distinct, left-vacancies}
use Rattle.xm_slots.proofs.slots.Slots.vacate.Goals as goal

pub invariant_of-self : goal.invariant_of-self
invariant_of-self g c =
    let es = c.self.inside.entries.items in
    let ks = c.self.inside.vacant.items in
    let i = c.self.invariant in
    let there = rw (← c.self.view_is) at c.requires in
    let back = c.push_reserved.ensures in
    rw c.clear.ensures (record {
      vacancies = rw back.items (left-vacancies es ks c.args.key i.vacancies i.distinct there);
      distinct = rw back.items (left-distinct es ks c.args.key i.vacancies i.distinct there);
      counted = omega (arith, i.counted, back.len, left-count es c.args.key there);
      entries_within = i.entries_within;
      entries_room = i.entries_room;
      vacant_room = omega (arith, i.vacant_room, back.capacity);
      keys = i.keys;
    })
