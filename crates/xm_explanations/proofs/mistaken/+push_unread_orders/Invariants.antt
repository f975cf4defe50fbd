use Rattle.std.proofs.Common.{length}
use Rattle.xm_explanations.proofs.mistaken.+push_unread_orders.Given as goal

abbrev pub decreases-push_unread_orders : goal.decreases-push_unread_orders
decreases-push_unread_orders l = length l.files.now
