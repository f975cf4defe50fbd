use Rattle.std.proofs.Common.{rules, ◌≡◌, true, ap, ◌∙◌}
use Rattle.xm_book.proofs.Standing.{limit-best, limit-next}
use Rattle.xm_book.proofs.order_queues.OrderQueues.limit_in.Goals as goal
use Rattle.xm_ladders.specs.Ladders.{ladder_on, side_of}
use Rattle.xm_rules.specs.Active.{is_active}

pub returns-in-None : goal.returns-in-None
returns-in-None g c =
    let q = c.self.inside in
    let on : is_active c.args.phase c.args.restriction ≡ true = search rules in
    let ladder : c.of-ladder.result.now ≡ ladder_on c.args.restriction (side_of c.args.side q.ladders) = c.of-ladder.ensures ∙ ap (ladder_on c.args.restriction) c.of.ensures in
    rw (c.in-None.is, ← c.self.view_is)
    (limit-best q.listing q.entries q.links q.ladders c.self.invariant.queued c.args.phase c.args.side c.args.restriction on c.best_limit.result
    (rw ladder at c.best_limit.ensures.some) (rw ladder at c.best_limit.ensures.none))

pub returns-in-Some : goal.returns-in-Some
returns-in-Some g c =
    let q = c.self.inside in
    let on : is_active c.args.phase c.args.restriction ≡ true = search rules in
    let ladder : c.of-ladder.result.now ≡ ladder_on c.args.restriction (side_of c.args.side q.ladders) = c.of-ladder.ensures ∙ ap (ladder_on c.args.restriction) c.of.ensures in
    rw (c.in-Some.is, ← c.self.view_is)
    (limit-next q.listing q.entries q.links q.ladders c.self.invariant.queued c.args.phase c.args.side c.args.restriction on c.in-Some.limit c.next_limit.result
    (rw ladder at c.next_limit.ensures.some) (rw ladder at c.next_limit.ensures.none))
