use Rattle.xm_rules.specs.declared.orders.Stop.{Stop}
use Rattle.std.proofs.Common.{◌≡◌, not, sym, ap, ◌∙◌, refl, Some, None}
use Rattle.xm_rules.specs.Commands.{outlasts}
use Rattle.xm_slots.specs.Listing.{listed_entry}
use Rattle.xm_slots.specs.declared.entry.Entry.{Entry}
use Rattle.xm_slots.specs.declared.listing.Listed.{Listed}
use Rattle.xm_slots.proofs.Tests.{same_some, some_none}
use Rattle.xm_slots.proofs.Members.{IsMade-map}
use Rattle.xm_stops.proofs.taking.has_expired.Goals as goal

pub returns-in-Some-clause-expired : goal.returns-in-Some-clause-expired
returns-in-Some-clause-expired g c h =
    let made = IsMade-map (λ (x : Listed Stop). x.key) c.args.queues.now.stops c.args.key (c.in-Some.ensures.held refl) in
    let is : c.in-Some.entry.now ≡ listed_entry made.from = same_some (c.in-Some.ensures.there made.from made.contains made.made) in
    record {
      listed = made.from;
      contains = made.contains;
      key_is = made.made;
      passes = ap (λ (e : Entry Stop). not (outlasts c.args.today e.item.validity)) (sym is) ∙ ap not (sym c.outlasts.ensures) ∙ h;
    }

pub returns-in-Some-clause-valid : goal.returns-in-Some-clause-valid
returns-in-Some-clause-valid g c h x there same =
    let is : c.in-Some.entry.now ≡ listed_entry x = same_some (c.in-Some.ensures.there x there same) in
    ap not (ap (λ (e : Entry Stop). not (outlasts c.args.today e.item.validity)) (sym is) ∙ ap not (sym c.outlasts.ensures) ∙ h)

pub returns-in-None-clause-valid : goal.returns-in-None-clause-valid
returns-in-None-clause-valid g c h x there same =
    absurd (let e : None ≡ Some (listed_entry x) = c.in-None.ensures.there x there same in some_none (sym e))
