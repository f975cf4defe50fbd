use Rattle.std.proofs.Common.{rules, ◌≡◌, true, ◌∙◌}
use Rattle.xm_book.proofs.LevelSums.{units-of-free}
use Rattle.xm_book.proofs.order_queues.OrderQueues.units_at.Goals as goal
use Rattle.xm_rules.specs.Settling.{is_continuous}

pub returns-then-is_continuous : goal.returns-then-is_continuous
returns-then-is_continuous g c =
    let continuous : is_continuous c.args.phase ≡ true = search rules in
    c.units_in.ensures.units ∙ units-of-free c.args.phase c.args.side c.args.kind.now c.args.self.now.orders continuous
