use Rattle.std.proofs.Common.{◌≡◌, ◌∙◌, ap, arith, sym, length}
use Rattle.std.proofs.lemmas.List.{with_items_is}
use Rattle.xm_price_maps.specs.Marks.{IsChanged, AreMarksSound, bit_of}
use Rattle.xm_price_maps.specs.Set.{Prices}
use Rattle.xm_price_maps.specs.Words.{IsShaped}
use Rattle.xm_price_maps.proofs.Members.{has_changed, ready, room_changed}
use Rattle.xm_price_maps.proofs.Stored.{same_shaped}
use Rattle.xm_price_maps.proofs.set.PriceSet.put.Goals as goal

pub put_mark-requires : goal.put_mark-requires
put_mark-requires g c =
    let view = ap (λ (s : Prices). s.pages) c.self.view_is in
    let old : c.deref_mut.result.now ≡ c.args.self.now.pages = c.deref_mut.ensures.value ∙ view in
    let sound : AreMarksSound c.args.self.now.pages = rw view at c.self.invariant.sound in
    let shaped : IsShaped c.args.self.now.pages = rw view at c.self.invariant.shaped in
    record {
      ready = rw old (ready c.args.self.now c.args.price (bit_of c.args.mark) c.requires.in_range c.requires.room sound shaped);
      place = omega arith;
    }

pub invariant_of-self : goal.invariant_of-self
invariant_of-self g c =
    let changed : IsChanged c.self.inside.pages.items c.put_mark.new.pages c.args.price (bit_of c.args.mark) = rw c.deref_mut.ensures.value at c.put_mark.ensures in
    let len : length c.put_mark.new.pages ≡ c.self.inside.pages.len = changed.shape.len ∙ sym c.self.inside.pages.ok.0 in
    let new = with_items_is c.self.inside.pages c.put_mark.new.pages len in
    rw new (record { sound = changed.sound; shaped = same_shaped c.self.inside.pages.items c.put_mark.new.pages changed.shape c.self.invariant.shaped })

pub returns-clause-members : goal.returns-clause-members
returns-clause-members g c =
    let old : c.deref_mut.result.now ≡ c.args.self.now.pages = c.deref_mut.ensures.value ∙ ap (λ (s : Prices). s.pages) c.self.view_is in
    let len : length c.put_mark.new.pages ≡ c.self.inside.pages.len = c.put_mark.ensures.shape.len ∙ ap length c.deref_mut.ensures.value ∙ sym c.self.inside.pages.ok.0 in
    let new = with_items_is c.self.inside.pages c.put_mark.new.pages len in
    rw new (has_changed c.args.self.now (record { pages = c.put_mark.new.pages }) c.args.price (bit_of c.args.mark) c.requires.in_range (rw old at c.put_mark.ensures))

pub returns-clause-kept : goal.returns-clause-kept
returns-clause-kept g c =
    let old : c.deref_mut.result.now ≡ c.args.self.now.pages = c.deref_mut.ensures.value ∙ ap (λ (s : Prices). s.pages) c.self.view_is in
    let len : length c.put_mark.new.pages ≡ c.self.inside.pages.len = c.put_mark.ensures.shape.len ∙ ap length c.deref_mut.ensures.value ∙ sym c.self.inside.pages.ok.0 in
    let new = with_items_is c.self.inside.pages c.put_mark.new.pages len in
    rw new (room_changed c.args.self.now (record { pages = c.put_mark.new.pages }) c.args.price (bit_of c.args.mark) c.requires.in_range (rw old at c.put_mark.ensures))
