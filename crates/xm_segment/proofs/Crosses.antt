-- A worker's seat may go to another thread, and threads may share a segment: what stands behind a lock may go to any of them.
use Rattle.std.proofs.Common.{ℕ}
use denote.RattleType.{RattleType}
use denote.Param.{number}
use denote.Param.Send.{IsSend, IsSync, sendable}
use Rattle.std.proofs.Crossing.{crosses}
use Rattle.std.proofs.sync.ledger.Book.TheSendSync as book
use Rattle.std.proofs.sync.ledger.Share.TheSendSync as share
use Rattle.xm_board.proofs.Crosses.{board-sync, pen-send, watch-send}
use Rattle.xm_desk.proofs.Crosses.{desk-send}
use Rattle.xm_segment.specs.declared.naming.Naming.{Ghosts}
use Rattle.xm_segment.specs.contracts.ledgers.Books as Books
use Rattle.xm_segment.specs.contracts.ledgers.Shares as Shares
use Rattle.xm_segment.specs.contracts.share_row.ShareRow as ShareRow
use Rattle.xm_segment.specs.contracts.seat.Seat as Seat
use Rattle.xm_segment.specs.contracts.seat.WatchRow as WatchRow
use Rattle.xm_segment.specs.contracts.locked.Locked as Locked
use Rattle.xm_segment.specs.contracts.lane.Lane as Lane
use Rattle.xm_segment.specs.contracts.lane.OpenLane as OpenLane
use Rattle.xm_segment.specs.contracts.segment.Lanes as Lanes
use Rattle.xm_segment.specs.contracts.segment.OwnRow as OwnRow
use Rattle.xm_segment.specs.contracts.segment.OwnShares as OwnShares
use Rattle.xm_segment.specs.contracts.segment.Segment as Segment

module _ (S : RattleType) (g : Ghosts S.Denot) where
  shares-send : (K : ℕ) → IsSend (Shares.the_field S (number K) g).row
  shares-send K = search (sendable, crosses, share.the_send) depth 20

  share_row-send : IsSend (ShareRow.the_field S g).row
  share_row-send = search (sendable, crosses, shares-send) depth 20

  watch_row-send : IsSend (WatchRow.the_field S g).row
  watch_row-send = search (sendable, crosses, watch-send) depth 20

  pub seat-send : IsSend (Seat.the_field S g).row
  seat-send = let a = share_row-send in let b = watch_row-send in search (sendable, crosses) depth 20

  books-send : (K : ℕ) → IsSend (Books.the_field S (number K) g).row
  books-send K = search (sendable, crosses, book.the_send) depth 20

  locked-send : (K : ℕ) → IsSend (Locked.the_field S (number K) g).row
  locked-send K = let a = desk-send in let b = books-send K in search (sendable, crosses, pen-send) depth 20

  open_lane-sync : (K : ℕ) → IsSync (OpenLane.the_field S (number K) g).row
  open_lane-sync K = let a = locked-send K in search (sendable, crosses, board-sync) depth 20

  lane-sync : (K : ℕ) → IsSync (Lane.the_field S (number K) g).row
  lane-sync K = let a = open_lane-sync K in search (sendable, crosses) depth 20

  lanes-sync : IsSync (Lanes.the_field S g).row
  lanes-sync = search (sendable, crosses, lane-sync) depth 20

  own_row-send : IsSend (OwnRow.the_field S g).row
  own_row-send = let a = share_row-send in search (sendable, crosses) depth 20

  own-sync : IsSync (OwnShares.the_field S g).row
  own-sync = let a = own_row-send in search (sendable, crosses) depth 20

  pub segment-sync : IsSync (Segment.the_field S g).row
  segment-sync = let a = own-sync in let b = lanes-sync in search (sendable, crosses) depth 20
