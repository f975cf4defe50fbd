-- A pen and a watch may go to another thread, and threads may share a board.
use denote.RattleType.{RattleType}
use denote.Param.Send.{IsSend, IsSync, sendable}
use Rattle.std.proofs.Crossing.{crosses}
use Rattle.std.specs.contracts.alloc.Global.{the_row as heap}
use Rattle.std.specs.contracts.impls.GlobalAllocator.TheImpl.{ghosts}
use Rattle.atomic_table.proofs.shared.Seat.TheSendSync as seat
use Rattle.atomic_table.proofs.shared.Shared.TheSendSync as shared
use Rattle.atomic_table.specs.contracts.shared.Seat as Seat
use Rattle.atomic_table.proofs.send_lease.SendLease.TheSendSync as lease
use Rattle.atomic_table.specs.contracts.owned.Table as Table
use Rattle.atomic_table.specs.contracts.shared.Shared as Shared
use Rattle.xm_board.specs.contracts.rule.BoardRuleTableRuleEntryViewDeskSettings.TheImpl.{ghosts as rule}
use Rattle.xm_board.specs.contracts.rule.BoardRule as BoardRule
use Rattle.xm_rules.specs.contracts.settings.DeskSettings as Settings
use Rattle.xm_board.specs.declared.naming.BoardNaming.{Ghosts}
use Rattle.xm_board.specs.contracts.board.Board as Board
use Rattle.xm_board.specs.contracts.journal.Entry as Entry
use Rattle.xm_board.specs.contracts.seats.View as View
use Rattle.xm_board.specs.contracts.pen.Pen as Pen
use Rattle.xm_board.specs.contracts.watch.Watch as Watch
use Rattle.xm_rules.specs.contracts.replies.Quote as Quote

entry-send : IsSend Entry.the_row
entry-send = search (sendable, crosses) depth 20

quote-send : IsSend Quote.the_row
quote-send = search (sendable, crosses) depth 20

seat-send : IsSend (Seat.the_row Entry.the_row View.the_row)
seat-send = seat.the_send Entry.the_row View.the_row entry-send

shared-sync : IsSync (Shared.the_row Entry.the_row View.the_row Settings.the_row BoardRule.the_row rule)
shared-sync = shared.the_sync Entry.the_row View.the_row Settings.the_row BoardRule.the_row rule entry-send

table-sync : IsSync (Table.the_field Entry.the_row View.the_row Settings.the_row BoardRule.the_row heap rule ghosts).row
table-sync = let a = shared-sync in search (sendable, crosses, lease.the_sync) depth 20

module _ (N : RattleType) (g : Ghosts N.Denot) where
  pub pen-send : IsSend (Pen.the_field N g).row
  pen-send = let a = seat-send in let b = quote-send in search (sendable, crosses) depth 20

  pub watch-send : IsSend (Watch.the_field N g).row
  watch-send = let a = seat-send in let b = quote-send in search (sendable, crosses) depth 20

  pub board-sync : IsSync (Board.the_field N heap g ghosts).row
  board-sync = let a = table-sync in search (sendable, crosses) depth 20
