use Rattle.std.proofs.Common.{◌≡◌, true, filter}
use Rattle.std.specs.List.{list_all}
use Rattle.xm_slots.specs.Listing.{is_below, is_done}
use Rattle.xm_book.specs.Expiry.{outlives}
use Rattle.xm_book.proofs.expiry.drop_orders.Given as goal

abbrev pub invariant-loop-key : goal.invariant-loop-key
invariant-loop-key g l = record {
  rest : l.queues ≡ record l.initial.queues { orders = l.queues.orders };
  valid : filter (outlives l.today) l.queues.orders ≡ filter (outlives l.today) l.initial.queues.orders;
  below : list_all (is_below l.key-end) l.queues.orders ≡ true;
  done : list_all (is_done (outlives l.today) l.key) l.queues.orders ≡ true;
}
