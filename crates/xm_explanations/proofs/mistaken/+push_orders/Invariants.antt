use Rattle.std.proofs.Common.{length}
use Rattle.xm_explanations.proofs.mistaken.+push_orders.Given as goal

abbrev pub decreases-push_orders : goal.decreases-push_orders
decreases-push_orders l = length l.files.now
