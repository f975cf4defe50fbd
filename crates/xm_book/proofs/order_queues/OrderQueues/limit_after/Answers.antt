use Rattle.std.proofs.Common.{rules, ◌≡◌, true}
use Rattle.xm_book.specs.Fronts.{has_worse}
use Rattle.xm_book.proofs.Merging.{best_free}
use Rattle.xm_book.proofs.order_queues.OrderQueues.limit_after.Goals as goal
use Rattle.xm_rules.specs.Settling.{is_continuous}

pub returns-then-is_continuous : goal.returns-then-is_continuous
returns-then-is_continuous g c =
    let continuous : is_continuous c.args.phase ≡ true = search rules in
    best_free c.args.phase c.args.side (has_worse c.args.side c.args.after.now) c.args.self.now.orders continuous c.args.side c.limit_in.result c.limit_in.ensures
