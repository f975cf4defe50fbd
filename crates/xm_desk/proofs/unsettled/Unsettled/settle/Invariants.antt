use Rattle.std.proofs.Common.{◌≡◌, ◌+◌, length}
use Rattle.xm_desk.specs.Made.{CanSettle, Makes}
use Rattle.xm_events.specs.Seen.{seen_after}
use Rattle.xm_events.specs.Story.{settle_events}
use Rattle.xm_rules.specs.Settling.{settle}
use Rattle.xm_desk.proofs.unsettled.Unsettled.settle.Given as goal

abbrev pub invariant-loop : goal.invariant-loop
invariant-loop g l = record {
  same : settle l.self.state l.self.pending ≡ settle l.initial.self.state l.initial.self.pending;
  told : seen_after l.self.seen (settle_events l.self.state l.self.pending) ≡ seen_after l.initial.self.seen (settle_events l.initial.self.state l.initial.self.pending);
  standing : CanSettle l.self;
  made : Makes l.initial.self l.self;
}

abbrev pub decreases-loop : goal.decreases-loop
decreases-loop g l = length l.self.state.stops + length l.self.pending
