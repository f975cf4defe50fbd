use Rattle.std.proofs.Common.{◌≡◌, ◌++◌, take}
use Rattle.std.specs.List.{flat_map}
use Rattle.xm_texts.specs.Statement.{stop_line}
use Rattle.xm_texts.proofs.remaining.push_stops.Given as goal

abbrev pub invariant-loop-stop : goal.invariant-loop-stop
invariant-loop-stop g l = l.text.items ≡ l.initial.text.items ++ flat_map (stop_line l.names l.tick) (take l.stop-index l.stops)
