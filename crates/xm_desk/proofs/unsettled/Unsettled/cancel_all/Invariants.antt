use Rattle.std.proofs.Common.{◌≡◌, length}
use Rattle.xm_rules.specs.Orders.{without_stops_of}
use Rattle.xm_desk.proofs.unsettled.Unsettled.cancel_all.Given as goal

abbrev pub invariant-loop : goal.invariant-loop
invariant-loop g l = record {
  left : without_stops_of l.member l.self.state.stops ≡ without_stops_of l.member l.initial.self.state.stops;
  rest : l.self ≡ record l.initial.self { state = record l.initial.self.state { stops = l.self.state.stops } };
}

abbrev pub decreases-loop : goal.decreases-loop
decreases-loop g l = length l.self.state.stops
