use Rattle.std.proofs.Common.{◌≡◌, ◌+◌, drop}
use Rattle.xm_events.specs.SeenStory.{numbered_so}
use Rattle.xm_stories.proofs.arrivals.numbered_so.Given as goal

abbrev pub invariant-loop-index : goal.invariant-loop-index
invariant-loop-index l = l.index + numbered_so l.number (drop l.index l.trades) ≡ numbered_so l.number l.trades
