use Rattle.std.proofs.Common.{rules, ◌≡◌, true, Contains, Option, ℕ, subst, option_copied}
use Rattle.xm_book.specs.Fronts.{IsFirstOf, goes_ahead, has_worse, is_on}
use Rattle.xm_book.proofs.Heading.{next-limited, next-some}
use Rattle.xm_book.proofs.Standing.{entry-at, listed-under}
use Rattle.xm_book.proofs.order_queues.OrderQueues.next_after.Goals as goal
use Rattle.xm_rules.specs.Active.{is_active}

pub later-requires : goal.later-requires
later-requires g c =
    let q = c.self.inside in
    rw (← c.self.view_is)
    (listed-under q.listing q.entries q.links q.ladders c.self.invariant.queued c.args.key c.in_ok-entry.entry.now c.in_ok-entry.ensures (rw (← c.self.view_is) at c.requires))

pub returns-in-Some-clause-next : goal.returns-in-Some-clause-next
returns-in-Some-clause-next g c =
    let q = c.self.inside in
    let e = c.in_ok-entry.entry.now in
    let on : is_active c.args.phase e.item.restriction ≡ true = search rules in
    let own : e.item.side ≡ c.args.side = search rules in
    λ x contained key.
    let inside : Contains q.listing x = rw (← c.self.view_is) at contained in
    let is = entry-at q.listing q.entries q.links q.ladders c.self.invariant.queued c.args.key e c.in_ok-entry.ensures x inside key in
    next-some c.args.phase c.args.side c.args.self.now.orders x e is on own c.in-Some.later.now c.in-Some.ensures

pub returns-in-None-clause-next : goal.returns-in-None-clause-next
returns-in-None-clause-next g c =
    let q = c.self.inside in
    let e = c.in_ok-entry.entry.now in
    let on : is_active c.args.phase e.item.restriction ≡ true = search rules in
    let own : e.item.side ≡ c.args.side = search rules in
    λ x contained key.
    let inside : Contains q.listing x = rw (← c.self.view_is) at contained in
    let is = entry-at q.listing q.entries q.links q.ladders c.self.invariant.queued c.args.key e c.in_ok-entry.ensures x inside key in
    next-limited c.args.phase c.args.side c.args.self.now.orders x e is on own c.in-None.ensures (option_copied c.first_limited.result)
    (subst (λ (after : Option ℕ). IsFirstOf (goes_ahead c.args.side) (is_on c.args.phase c.args.side (has_worse c.args.side after)) c.args.self.now.orders (option_copied c.first_limited.result)) c.limit.ensures c.first_limited.ensures)
