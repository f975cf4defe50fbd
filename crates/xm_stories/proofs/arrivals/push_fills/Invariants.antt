use Rattle.std.proofs.Common.{◌≡◌, ◌++◌, take}
use Rattle.xm_events.specs.SeenStory.{bare_fills}
use Rattle.xm_stories.proofs.arrivals.push_fills.Given as goal

abbrev pub invariant-loop-trade : goal.invariant-loop-trade
invariant-loop-trade g l = l.events.items ≡ l.initial.events.items ++ bare_fills (take l.trade-index l.trades)
