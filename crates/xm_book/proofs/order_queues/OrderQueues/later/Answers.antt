use Rattle.std.proofs.Common.{rules, ◌≡◌, true, option_copied}
use Rattle.xm_book.specs.Fronts.{has_kind_later}
use Rattle.xm_book.proofs.Merging.{earliest_free, earliest_of_four}
use Rattle.xm_book.proofs.order_queues.OrderQueues.later.Goals as goal
use Rattle.xm_rules.specs.Settling.{is_continuous}

pub returns : goal.returns
returns g c =
    let e = c.args.entry.now in
    rw (c.earlier_of_two.ensures, c.earlier_of_two-early.ensures, c.earlier_of_two-late.ensures)
    (earliest_of_four c.args.phase e.item.side (has_kind_later e.item.kind e.time) c.args.self.now.orders (option_copied c.later_in-free.result) (option_copied c.later_in-opening.result)
    (option_copied c.later_in-auctions.result) (option_copied c.later_in-closing.result) c.later_in-free.ensures c.later_in-opening.ensures c.later_in-auctions.ensures c.later_in-closing.ensures)

pub returns-then-is_continuous : goal.returns-then-is_continuous
returns-then-is_continuous g c =
    let e = c.args.entry.now in
    let continuous : is_continuous c.args.phase ≡ true = search rules in
    earliest_free c.args.phase e.item.side (has_kind_later e.item.kind e.time) c.args.self.now.orders continuous (option_copied c.later_in-free.result) c.later_in-free.ensures
