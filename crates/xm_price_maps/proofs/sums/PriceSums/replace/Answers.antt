use Rattle.std.proofs.Common.{◌≡◌, ◌∙◌, ap, sym, length}
use Rattle.std.proofs.lemmas.List.{with_items_is}
use Rattle.xm_price_maps.specs.Slots.{SameShape}
use Rattle.xm_price_maps.specs.Sums.{IsSumShaped}
use Rattle.xm_price_maps.proofs.Summing.{has_slots, room_kept, same_shaped}
use Rattle.xm_price_maps.proofs.sums.PriceSums.replace.Goals as goal

pub put_sums-requires-clause-slots : goal.put_sums-requires-clause-slots
put_sums-requires-clause-slots g c =
    let old : c.deref_mut.result.now ≡ c.args.self.now = c.deref_mut.ensures.value ∙ c.self.view_is in
    let shaped : IsSumShaped c.args.self.now = rw c.self.view_is at c.self.invariant in
    rw old (has_slots c.args.self.now c.args.place c.requires.in_range shaped c.requires.room)

pub put_sums-requires-clause-there : goal.put_sums-requires-clause-there
put_sums-requires-clause-there g c =
    let old : c.deref_mut.result.now ≡ c.args.self.now = c.deref_mut.ensures.value ∙ c.self.view_is in
    rw old c.requires.there

pub put_sums-requires-clause-fits : goal.put_sums-requires-clause-fits
put_sums-requires-clause-fits g c =
    let old : c.deref_mut.result.now ≡ c.args.self.now = c.deref_mut.ensures.value ∙ c.self.view_is in
    rw old c.requires.fits

pub invariant_of-self : goal.invariant_of-self
invariant_of-self g c =
    let shape : SameShape c.self.inside.pages.items c.put_sums.new.pages = rw c.deref_mut.ensures.value at c.put_sums.ensures.shape in
    let len : length c.put_sums.new.pages ≡ c.self.inside.pages.len = shape.len ∙ sym c.self.inside.pages.ok.0 in
    let new = with_items_is c.self.inside.pages c.put_sums.new.pages len in
    rw new (same_shaped c.self.inside.pages.items c.put_sums.new.pages shape c.self.invariant)

pub returns-clause-sums : goal.returns-clause-sums
returns-clause-sums g c =
    let old : c.deref_mut.result.now ≡ c.args.self.now = c.deref_mut.ensures.value ∙ c.self.view_is in
    let len : length c.put_sums.new.pages ≡ c.self.inside.pages.len = c.put_sums.ensures.shape.len ∙ ap length c.deref_mut.ensures.value ∙ sym c.self.inside.pages.ok.0 in
    let new = with_items_is c.self.inside.pages c.put_sums.new.pages len in
    rw new (rw old at c.put_sums.ensures.sums)

pub returns-clause-kept : goal.returns-clause-kept
returns-clause-kept g c =
    let old : c.deref_mut.result.now ≡ c.args.self.now = c.deref_mut.ensures.value ∙ c.self.view_is in
    let len : length c.put_sums.new.pages ≡ c.self.inside.pages.len = c.put_sums.ensures.shape.len ∙ ap length c.deref_mut.ensures.value ∙ sym c.self.inside.pages.ok.0 in
    let new = with_items_is c.self.inside.pages c.put_sums.new.pages len in
    rw new (room_kept c.args.self.now c.put_sums.new.pages (rw old at c.put_sums.ensures.shape))
