use Rattle.std.proofs.Common.{rules, ◌≡◌, true, option_copied}
use Rattle.xm_book.specs.Fronts.{has_kind}
use Rattle.xm_book.proofs.Merging.{earliest_free}
use Rattle.xm_book.proofs.order_queues.OrderQueues.front.Goals as goal
use Rattle.xm_rules.specs.Settling.{is_continuous}

pub returns-then-is_continuous : goal.returns-then-is_continuous
returns-then-is_continuous g c =
    let continuous : is_continuous c.args.phase ≡ true = search rules in
    earliest_free c.args.phase c.args.side (has_kind c.args.kind.now) c.args.self.now.orders continuous (option_copied c.front_in.result) c.front_in.ensures
