use Rattle.std.proofs.Common.{rules, ◌≡◌, true, ap, ◌∙◌}
use Rattle.xm_book.proofs.Standing.{limit-worst}
use Rattle.xm_book.proofs.order_queues.OrderQueues.worst_in.Goals as goal
use Rattle.xm_ladders.specs.Ladders.{ladder_on, side_of}
use Rattle.xm_rules.specs.Active.{is_active}

pub returns : goal.returns
returns g c =
    let q = c.self.inside in
    let on : is_active c.args.phase c.args.restriction ≡ true = search rules in
    let ladder : c.of-2.result.now ≡ ladder_on c.args.restriction (side_of c.args.side q.ladders) = c.of-2.ensures ∙ ap (ladder_on c.args.restriction) c.of.ensures in
    rw (← c.self.view_is)
    (limit-worst q.listing q.entries q.links q.ladders c.self.invariant.queued c.args.phase c.args.side c.args.restriction on c.args.bound c.worst_within.result
    (rw ladder at c.worst_within.ensures.some) (rw ladder at c.worst_within.ensures.none))
