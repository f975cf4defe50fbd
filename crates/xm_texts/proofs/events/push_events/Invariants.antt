use Rattle.std.proofs.Common.{◌≡◌, ◌++◌, take}
use Rattle.std.specs.List.{flat_map}
use Rattle.xm_texts.specs.RowEvents.{event_line}
use Rattle.xm_texts.proofs.events.push_events.Given as goal

abbrev pub invariant-loop-event : goal.invariant-loop-event
invariant-loop-event g l = l.text.items ≡ l.initial.text.items ++ flat_map (event_line l.names l.line l.security l.tick) (take l.event-index l.events)
