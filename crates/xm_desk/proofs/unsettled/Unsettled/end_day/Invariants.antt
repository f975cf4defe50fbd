use Rattle.std.proofs.Common.{◌≡◌, length}
use Rattle.xm_desk.proofs.unsettled.Unsettled.end_day.Given as goal

abbrev pub invariant-loop : goal.invariant-loop
invariant-loop g l = record {
  rest : l.self ≡ record l.initial.self { pending = l.self.pending; seen = l.self.seen };
  interruption : l.self.seen.interruption ≡ l.initial.self.seen.interruption;
}

abbrev pub decreases-loop : goal.decreases-loop
decreases-loop g l = length l.self.pending
