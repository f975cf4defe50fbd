use Rattle.std.proofs.Common.{◌≡◌, ◌++◌, filter, take}
use Rattle.std.specs.List.{flat_map}
use Rattle.xm_rules.specs.Commands.{outlasts}
use Rattle.xm_rules.specs.declared.orders.Stop.{Stop}
use Rattle.xm_texts.specs.Carry.{carried_stop}
use Rattle.xm_texts.proofs.carry_file.push_stops.Given as goal

abbrev pub invariant-loop-stop : goal.invariant-loop-stop
invariant-loop-stop g l =
    l.text.items ≡ l.initial.text.items ++ flat_map (carried_stop l.names l.security l.tick) (filter (λ (stop : Stop). outlasts l.today stop.validity) (take l.stop-index l.stops))
