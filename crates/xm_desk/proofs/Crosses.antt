-- A desk may go to another thread.
use denote.Param.Send.{IsSend, sendable}
use Rattle.std.proofs.Crossing.{crosses}
use Rattle.std.specs.contracts.alloc.Global.{the_row as heap}
use Rattle.std.specs.contracts.impls.GlobalAllocator.TheImpl.{ghosts}
use Rattle.xm_book.proofs.Crosses.{book-send, trades-send}
use Rattle.xm_positions.proofs.Crosses.{positions-send}
use Rattle.xm_rules.specs.contracts.carried.Carried as Carried
use Rattle.xm_rules.specs.contracts.carried.Lists as Lists
use Rattle.xm_rules.specs.contracts.settings.DeskSettings as DeskSettings
use Rattle.xm_stops.proofs.Crosses.{pending-send, stops-send}
use Rattle.xm_desk.specs.contracts.tape.Tape as Tape
use Rattle.xm_desk.specs.contracts.unsettled.Unsettled as Unsettled
use Rattle.xm_desk.specs.contracts.unsettled.market.Market as Market
use Rattle.xm_desk.specs.contracts.desk.Desk as Desk
use Rattle.xm_desk.specs.contracts.journal.UnkeptJournal as UnkeptJournal
use Rattle.xm_desk.specs.contracts.journal.UnkeptJournalJournaling.TheImpl.{ghosts as unkept}

tape-send : IsSend (Tape.the_field heap ghosts).row
tape-send = let a = trades-send in search (sendable, crosses) depth 30

lists-send : IsSend Lists.the_field.row
lists-send = search (sendable, crosses) depth 30

carried-send : IsSend Carried.the_field.row
carried-send = let a = lists-send in search (sendable, crosses) depth 30

settings-send : IsSend DeskSettings.the_field.row
settings-send = let a = carried-send in search (sendable, crosses) depth 30

unsettled-send : IsSend (Unsettled.the_field heap ghosts).row
unsettled-send = let a = book-send in let b = stops-send in let c = pending-send in let d = tape-send in let e = settings-send in search (sendable, crosses) depth 30

market-send : IsSend (Market.the_field heap ghosts).row
market-send = let a = unsettled-send in search (sendable, crosses) depth 20

unkept-send : IsSend UnkeptJournal.the_field.row
unkept-send = search (sendable, crosses) depth 30

pub desk-send : IsSend (Desk.the_field heap UnkeptJournal.the_row ghosts unkept).row
desk-send = let a = market-send in let b = positions-send in let c = unkept-send in search (sendable, crosses) depth 30
