use Rattle.std.proofs.Common.{◌≡◌, rules, None, find}
use Rattle.xm_rules.specs.Orders.{is_stop_named}
use Rattle.xm_slots.proofs.Tests.{none-found}
use Rattle.xm_tests.proofs.stops.held.Held.enter.Goals as goal

pub join-requires-clause-name : goal.join-requires-clause-name
join-requires-clause-name g c =
    let named = is_stop_named c.args.stop.member c.args.stop.reference in
    let stops = c.args.self.now.stops.stops in
    let none : find named stops ≡ None = search rules in
    none-found named stops none
