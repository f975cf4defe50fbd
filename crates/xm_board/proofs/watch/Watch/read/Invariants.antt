use Rattle.std.proofs.Common.{◌≡◌}
use Rattle.xm_board.specs.Journals.{Begins}
use Rattle.xm_board.proofs.watch.Watch.read.Given as goal

abbrev pub invariant-loop : goal.invariant-loop
invariant-loop g l = Begins l.initial.self.seen l.self.seen × (l.self.own_entries ≡ l.initial.self.own_entries) × (l.self.number ≡ l.initial.self.number)
