use Rattle.std.proofs.Common.{◌≡◌, ◌∙◌, None, Some, sym, ap}
use Rattle.xm_slots.specs.Listing.{listed_entry}
use Rattle.xm_slots.specs.declared.entry.Entry.{Entry}
use Rattle.xm_slots.proofs.Tests.{same_some, some_none}
use Rattle.xm_rules.specs.Commands.{outlasts}
use Rattle.xm_book.proofs.expiry.is_valid_beyond.Goals as goal
use Rattle.xm_rules.specs.declared.orders.Order.{Order}

pub returns-in-Some : goal.returns-in-Some
returns-in-Some g c y there same =
    let e : c.in-Some.entry.now ≡ listed_entry y = same_some (c.in-Some.ensures.there y there same) in
    c.outlasts.ensures ∙ ap (λ (z : Entry Order). outlasts c.args.today z.item.validity) e

pub returns-in-None : goal.returns-in-None
returns-in-None g c y there same = absurd (let e : None ≡ Some (listed_entry y) = c.in-None.ensures.there y there same in some_none (sym e))
