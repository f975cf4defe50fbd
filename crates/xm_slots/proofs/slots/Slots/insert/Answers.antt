use Rattle.std.proofs.Common.{arith}
use Rattle.xm_slots.proofs.SlotKeys.{filled-count, filled-distinct, filled-vacancies}
use Rattle.xm_slots.proofs.slots.Slots.insert.Goals as goal

pub invariant_of-self : goal.invariant_of-self
invariant_of-self g c =
    let s = c.self.inside in
    let i = c.self.invariant in
    let all = rw c.in-Some.ensures.items at i.vacancies in
    let distinct = rw c.in-Some.ensures.items at i.distinct in
    rw c.of.ensures (record {
      vacancies = filled-vacancies s.entries.items c.pop.new.self.items c.in-Some.key all distinct c.args.entry;
      distinct = filled-distinct s.entries.items c.pop.new.self.items c.in-Some.key all distinct;
      counted = omega (arith, i.counted, c.in-Some.ensures.len, filled-count s.entries.items c.pop.new.self.items c.in-Some.key all distinct c.args.entry);
      entries_within = i.entries_within;
      entries_room = i.entries_room;
      vacant_room = omega (arith, i.vacant_room, c.in-Some.ensures.capacity);
      keys = i.keys;
    })

pub returns-in-Some-clause-used : goal.returns-in-Some-clause-used
returns-in-Some-clause-used g c =
    let s = c.self.inside in
    let i = c.self.invariant in
    let all = rw c.in-Some.ensures.items at i.vacancies in
    let distinct = rw c.in-Some.ensures.items at i.distinct in
    rw (← c.self.view_is, c.of.ensures) (filled-count s.entries.items c.pop.new.self.items c.in-Some.key all distinct c.args.entry)
