use Rattle.std.proofs.Common.{rules, ◌≡◌, ◌∙◌, None, Some, sym, ap, filter}
use Rattle.xm_book.specs.Expiry.{outlives}
use Rattle.xm_slots.specs.Listing.{is_done, is_other_key, listed_entry}
use Rattle.xm_slots.specs.declared.entry.Entry.{Entry}
use Rattle.xm_book.proofs.Expiring.{gone, pass-as-before}
use Rattle.xm_slots.proofs.Expiring.{all-kept, all-more}
use Rattle.xm_slots.proofs.Tests.{same_some, some_none}
use Rattle.xm_rules.specs.Commands.{outlasts}
use Rattle.xm_book.proofs.expiry.drop_if_expired.Goals as goal
use Rattle.xm_rules.specs.declared.orders.Order.{Order}

pub returns-in_default-clause-done : goal.returns-in_default-clause-done
returns-in_default-clause-done g c h =
    all-more (outlives c.args.today) c.args.key c.args.queues.now.orders h
    (λ y there same. absurd (let e : None ≡ Some (listed_entry y) = c.in_default.ensures.there y there same in some_none (sym e)))

pub returns-then-outlasts-clause-done : goal.returns-then-outlasts-clause-done
returns-then-outlasts-clause-done g c h =
    all-more (outlives c.args.today) c.args.key c.args.queues.now.orders h
    (λ y there same.
    (let e : c.in-Some.entry.now ≡ listed_entry y = same_some (c.in-Some.ensures.there y there same) in
    sym (ap (λ (z : Entry Order). outlasts c.args.today z.item.validity) e) ∙ sym (c.if-outlasts.ensures)))

pub returns-clause-valid : goal.returns-clause-valid
returns-clause-valid g c =
    rw c.take.ensures.left
    (pass-as-before c.args.key c.args.queues.now.orders (outlives c.args.today) c.take.ensures.distinct (search rules)
    (λ y there same.
    (let e : c.in-Some.entry.now ≡ listed_entry y = same_some (c.in-Some.ensures.there y there same) in
    sym (ap (λ (z : Entry Order). outlasts c.args.today z.item.validity) e) ∙ sym (c.if-outlasts.ensures))))

pub returns-clause-done : goal.returns-clause-done
returns-clause-done g c h =
    let orders = c.args.queues.now.orders in
    rw c.take.ensures.left
    (all-more (outlives c.args.today) c.args.key (filter (is_other_key c.args.key) orders) (all-kept (is_done (outlives c.args.today) c.args.key) (is_other_key c.args.key) orders h)
    (λ y left same. absurd (gone c.args.key orders y left same)))

pub returns-clause-fewer : goal.returns-clause-fewer
returns-clause-fewer g c p h = rw c.take.ensures.left (all-kept p (is_other_key c.args.key) c.args.queues.now.orders h)
