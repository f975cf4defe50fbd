use Rattle.std.proofs.Common.{sym, ◌∙◌, subst, Contains, option_copied}
use Rattle.xm_slots.specs.Listing.{keys_in}
use Rattle.xm_slots.specs.declared.listing.Listed.{Listed}
use Rattle.xm_slots.proofs.Members.{Contains-map}
use Rattle.xm_book.proofs.Priorities.{key-none, key-some, next-is, next-unknown}
use Rattle.xm_book.proofs.book.Book.next_after.Goals as goal
use Rattle.xm_rules.specs.declared.orders.Order.{Order}

pub returns-in_err-key : goal.returns-in_err-key
returns-in_err-key g c =
    let q = c.self.inside.queues in
    let o = c.args.order.now in
    let unnamed = key-none o.member o.reference q.orders (c.in_err-key.ensures ∙ c.self.invariant.named o.member o.reference) in
    rw (c.from_residual.ensures, ← c.self.view_is) (sym (next-unknown c.args.phase c.args.side q.orders o.member o.reference unnamed))

pub next_after-requires : goal.next_after-requires
next_after-requires g c =
    let q = c.self.inside.queues in
    let o = c.args.order.now in
    let x = key-some o.member o.reference c.in_ok-key.key q.orders (c.in_ok-key.ensures ∙ c.self.invariant.named o.member o.reference) in
    subst (Contains (keys_in q.orders)) x.3 (Contains-map (λ (y : Listed Order). y.key) q.orders x.0 x.1)

pub returns : goal.returns
returns g c =
    let q = c.self.inside.queues in
    let o = c.args.order.now in
    let x = key-some o.member o.reference c.in_ok-key.key q.orders (c.in_ok-key.ensures ∙ c.self.invariant.named o.member o.reference) in
    rw (← c.self.view_is)
    (c.order_of.ensures
    ∙ next-is c.args.phase c.args.side q.orders q.adds c.next_after.ensures.rise c.self.invariant.sound.names x.0 x.1 o.member o.reference x.2 (option_copied c.next_after.result)
    (c.next_after.ensures.next x.0 x.1 x.3))
