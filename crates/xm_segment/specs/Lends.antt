-- What a seat ends as, once a `&mut` to its row of watches has ended.
use Rattle.std.specs.Borrow.{Fml, Lends, MutBor, RattleType}
use Rattle.xm_segment.specs.Seats.{SeatView}
use Rattle.xm_segment.specs.Watches.{RowView}
use Rattle.xm_segment.specs.contracts.seat.Seat as seat
use Rattle.xm_segment.specs.contracts.seat.WatchRow as row
use Rattle.xm_segment.specs.declared.naming.Naming.{Ghosts}

module _ (S : RattleType) (naming : Ghosts S.Denot) (s : MutBor SeatView) where
  -- what the seat counts stays, and its row is what is written through r
  abbrev pub lends_row : MutBor RowView → Fml
  lends_row r = Lends (seat.the_row S naming) (row.the_row S naming) s r (λ w. record s.now { row = w })
