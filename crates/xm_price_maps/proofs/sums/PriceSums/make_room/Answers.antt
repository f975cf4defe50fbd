use Rattle.std.proofs.Common.{◌/◌, ◌∙◌, sym, arith}
use Rattle.xm_price_maps.proofs.Paging.{none_if, some_if}
use Rattle.xm_price_maps.proofs.Summing.{no_room, room_inside, same_sum, slot_none, made_slots, made_shaped, made_room, made_kept}
use Rattle.xm_price_maps.proofs.sums.PriceSums.make_room.Goals as goal
use Rattle.xm_price_maps.specs.declared.sums.TheConstants.{WIDE_PLACES}

pub index_mut-requires : goal.index_mut-requires
index_mut-requires g c = rw (c.in_ok-pages.pages.ok.0, c.in_ok-pages.ensures.count) (omega arith)

pub invariant_of-self : goal.invariant_of-self
invariant_of-self g c =
    made_shaped c.in_ok-pages.pages.items c.args.place c.requires.in_range c.in_ok-page.page c.in_ok-page.ensures
    c.in_ok-pages.ensures.count (c.in_ok-pages.ensures.absent (c.args.place / WIDE_PLACES) (omega arith)) c.in_ok-pages.ensures.shaped

pub index_mut-requires-2 : goal.index_mut-requires-2
index_mut-requires-2 g c =
    let some = rw c.self.inside.pages.ok.0 at (some_if c.self.inside.pages.len c.is_empty.result c.is_empty.ensures c.if-is_empty.false) in
    let count = c.self.invariant.count some in
    rw (c.self.inside.pages.ok.0, count) (omega arith)

pub invariant_of-self-2 : goal.invariant_of-self-2
invariant_of-self-2 g c =
    let some = rw c.self.inside.pages.ok.0 at (some_if c.self.inside.pages.len c.is_empty.result c.is_empty.ensures c.if-is_empty.false) in
    let absent = no_room c.self.inside.pages.items c.args.place (rw (← c.self.view_is) at c.requires.none) in
    made_shaped c.self.inside.pages.items c.args.place c.requires.in_range c.in_ok-page.page c.in_ok-page.ensures (c.self.invariant.count some) absent c.self.invariant

pub returns-then-is_empty-clause-room : goal.returns-then-is_empty-clause-room
returns-then-is_empty-clause-room g c =
    made_room c.in_ok-pages.pages.items c.args.place c.requires.in_range c.in_ok-page.page c.in_ok-page.ensures
    c.in_ok-pages.ensures.count (c.in_ok-pages.ensures.absent (c.args.place / WIDE_PLACES) (omega arith))

pub returns-then-is_empty-clause-kept : goal.returns-then-is_empty-clause-kept
returns-then-is_empty-clause-kept g c =
    let none = sym c.self.inside.pages.ok.0 ∙ none_if c.self.inside.pages.len c.is_empty.result c.is_empty.ensures c.if-is_empty.true in
    λ p had. absurd (let there = room_inside c.self.inside.pages.items p (rw (← c.self.view_is) at had) in omega arith)

pub returns-then-is_empty-clause-same : goal.returns-then-is_empty-clause-same
returns-then-is_empty-clause-same g c =
    let none = sym c.self.inside.pages.ok.0 ∙ none_if c.self.inside.pages.len c.is_empty.result c.is_empty.ensures c.if-is_empty.true in
    let slots = made_slots c.in_ok-pages.pages.items c.args.place c.requires.in_range c.in_ok-page.page c.in_ok-page.ensures
    c.in_ok-pages.ensures.count (c.in_ok-pages.ensures.absent (c.args.place / WIDE_PLACES) (omega arith)) in
    rw (← c.self.view_is) (same_sum c.self.inside.pages.items _ (λ i k. slots i k ∙ c.in_ok-pages.ensures.clear i k ∙ sym (slot_none c.self.inside.pages.items none i k)))

pub returns-clause-room : goal.returns-clause-room
returns-clause-room g c =
    let some = rw c.self.inside.pages.ok.0 at (some_if c.self.inside.pages.len c.is_empty.result c.is_empty.ensures c.if-is_empty.false) in
    let absent = no_room c.self.inside.pages.items c.args.place (rw (← c.self.view_is) at c.requires.none) in
    made_room c.self.inside.pages.items c.args.place c.requires.in_range c.in_ok-page.page c.in_ok-page.ensures (c.self.invariant.count some) absent

pub returns-clause-kept : goal.returns-clause-kept
returns-clause-kept g c =
    let some = rw c.self.inside.pages.ok.0 at (some_if c.self.inside.pages.len c.is_empty.result c.is_empty.ensures c.if-is_empty.false) in
    let absent = no_room c.self.inside.pages.items c.args.place (rw (← c.self.view_is) at c.requires.none) in
    λ p had. made_kept c.self.inside.pages.items c.args.place c.requires.in_range c.in_ok-page.page c.in_ok-page.ensures (c.self.invariant.count some) absent p (rw (← c.self.view_is) at had)

pub returns-clause-same : goal.returns-clause-same
returns-clause-same g c =
    let some = rw c.self.inside.pages.ok.0 at (some_if c.self.inside.pages.len c.is_empty.result c.is_empty.ensures c.if-is_empty.false) in
    let absent = no_room c.self.inside.pages.items c.args.place (rw (← c.self.view_is) at c.requires.none) in
    rw (← c.self.view_is)
    (same_sum c.self.inside.pages.items _ (made_slots c.self.inside.pages.items c.args.place c.requires.in_range c.in_ok-page.page c.in_ok-page.ensures (c.self.invariant.count some) absent))
