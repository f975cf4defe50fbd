use Rattle.std.proofs.Common.{◌≡◌, ◌+◌, ◌-◌, ◌≤◌, length}
use Rattle.std.specs.Vec.{vec_capacity}
use Rattle.xm_segment.specs.Boards.{AreLeft}
use Rattle.xm_segment.specs.Ledgers.{nothing_counted}
use Rattle.xm_segment.specs.Seats.{AreSeats}
use Rattle.xm_segment.proofs.opened.seated.Given as goal

abbrev pub invariant-loop-number : goal.invariant-loop-number
invariant-loop-number g l = record {
  seats : AreSeats g.S.Naming.settings l.number l.seats.items;
  room : l.workers ≤ vec_capacity l.seats;
  shares : l.shares ≡ record { parts = l.workers + 1 - l.number; sums = nothing_counted };
  rows : AreLeft g.S.Naming.settings (length l.initial.rows.items) l.number l.rows.items;
}
