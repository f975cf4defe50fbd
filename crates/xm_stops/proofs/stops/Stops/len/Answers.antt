use Rattle.xm_slots.specs.Listing.{listed_item}
use Rattle.std.proofs.Common.{◌≤◌}
use Rattle.std.proofs.lemmas.List.Elements.{All-map}
use Rattle.xm_rules.specs.declared.orders.Stop.{Stop}
use Rattle.xm_stops.proofs.stops.Stops.len.Goals as goal
use Rattle.xm_ticks.specs.declared.numbers.TheConstants.{MAX_PRICE}

pub returns-clause-triggers : goal.returns-clause-triggers
returns-clause-triggers g c = rw (← c.self.view_is) (All-map (λ (s : Stop). s.trigger ≤ MAX_PRICE) listed_item c.self.inside.queues.stops c.len.ensures.triggers)
