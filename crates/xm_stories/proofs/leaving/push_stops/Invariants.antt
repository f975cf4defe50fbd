use Rattle.std.proofs.Common.{◌≡◌, ◌++◌, map, take}
use Rattle.xm_events.specs.declared.events.Entry.TheVariants as entry
use Rattle.xm_rules.specs.declared.orders.Stop.{Stop}
use Rattle.xm_stories.specs.Around.{gone_for}
use Rattle.xm_stories.proofs.leaving.push_stops.Given as goal

abbrev pub invariant-loop-stop : goal.invariant-loop-stop
invariant-loop-stop g l = l.events.items ≡ l.initial.events.items ++ map (λ (stop : Stop). gone_for l.reason (entry.Stop stop)) (take l.stop-index l.stops)
