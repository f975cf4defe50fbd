use Rattle.xm_book.specs.Queued.{orders_of_level}
use Rattle.xm_book.proofs.Walking.{IsPassed}
use Rattle.xm_book.proofs.order_queues.OrderQueues.first_later.Given as goal

abbrev pub invariant-loop-step : goal.invariant-loop-step
invariant-loop-step g l = IsPassed (orders_of_level l.entry.item.side l.fn.restriction l.entry.item.kind l.self-inside.listing) l.entry.time l._step l.key
