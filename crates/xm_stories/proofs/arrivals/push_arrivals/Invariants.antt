use Rattle.std.proofs.Common.{◌≡◌, ◌++◌, ◌+◌, drop}
use Rattle.xm_events.specs.SeenStory.{arrivals}
use Rattle.xm_stories.specs.Around.{outcome_in}
use Rattle.xm_stories.proofs.arrivals.push_arrivals.Given as goal

abbrev pub invariant-loop-stop : goal.invariant-loop-stop
invariant-loop-stop g l = record {
  numbered : l.number ≡ l.initial.number + l.stop-index;
  told : l.events.items ++ arrivals (outcome_in l.between) l.number l.last l.trades (drop l.stop-index l.stops)
      ≡ l.initial.events.items ++ arrivals (outcome_in l.between) l.initial.number l.initial.last l.initial.trades l.stops;
}
