-- A book and trades may go to another thread.
use denote.Param.Send.{IsSend, sendable}
use Rattle.std.proofs.Crossing.{crosses}
use Rattle.std.specs.contracts.alloc.Global.{the_row as heap}
use Rattle.std.specs.contracts.impls.GlobalAllocator.TheImpl.{ghosts}
use Rattle.xm_ladders.proofs.Crosses.{ladders-send}
use Rattle.xm_name_index.proofs.Crosses.{names-send}
use Rattle.xm_queues.proofs.Crosses.{queues-send}
use Rattle.xm_book.specs.contracts.order_queues.OrderQueues as OrderQueues
use Rattle.xm_book.specs.contracts.book.Book as Book
use Rattle.xm_book.specs.contracts.trades.Trades as Trades

order_queues-send : IsSend (OrderQueues.the_field heap ghosts).row
order_queues-send = let a = ladders-send in let b = queues-send in search (sendable, crosses) depth 30

pub book-send : IsSend (Book.the_field heap ghosts).row
book-send = let a = order_queues-send in let b = names-send in search (sendable, crosses) depth 20

pub trades-send : IsSend (Trades.the_field heap ghosts).row
trades-send = search (sendable, crosses) depth 20
