use Rattle.std.proofs.Common.{◌∙◌, ap, sym, arith}
use Rattle.xm_price_maps.specs.Map.{value_at}
use Rattle.xm_price_maps.proofs.Paging.{none_if, some_if}
use Rattle.xm_price_maps.proofs.Lookups.{no_room, lookup_unchanged, room_made, room_kept, shaped_made, first_inside, first_room, first_kept, first_same, first_shaped}
use Rattle.xm_price_maps.proofs.map.PriceMap.make_room.Goals as goal

pub index_mut-requires : goal.index_mut-requires
index_mut-requires g c =
    let inside = first_inside c.in_ok-pages.pages.items c.in_ok-pages.ensures c.args.price c.requires.in_range in
    rw c.in_ok-pages.pages.ok.0 inside

pub invariant_of-self : goal.invariant_of-self
invariant_of-self g c =
    let none = sym c.self.inside.pages.ok.0 ∙ none_if c.self.inside.pages.len c.is_empty.result c.is_empty.ensures c.if-is_empty.true in
    first_shaped c.self.inside.pages.items c.in_ok-pages.pages.items none c.in_ok-pages.ensures c.args.price c.requires.in_range c.in_ok-page.page c.in_ok-page.ensures

pub index_mut-requires-2 : goal.index_mut-requires-2
index_mut-requires-2 g c =
    let some = rw c.self.inside.pages.ok.0 at (some_if c.self.inside.pages.len c.is_empty.result c.is_empty.ensures c.if-is_empty.false) in
    let count = c.self.invariant.count some in
    rw (c.self.inside.pages.ok.0, count) (omega arith)

pub invariant_of-self-2 : goal.invariant_of-self-2
invariant_of-self-2 g c =
    let some = rw c.self.inside.pages.ok.0 at (some_if c.self.inside.pages.len c.is_empty.result c.is_empty.ensures c.if-is_empty.false) in
    let count = c.self.invariant.count some in
    let absent = no_room c.self.inside.pages.items c.self.invariant c.args.price (rw (← c.self.view_is) at c.requires.none) in
    shaped_made c.self.inside.pages.items c.args.price c.in_ok-page.page c.in_ok-page.ensures (rw count (omega arith)) absent count c.self.invariant.whole

pub returns-then-is_empty-clause-room : goal.returns-then-is_empty-clause-room
returns-then-is_empty-clause-room g c =
    let none = sym c.self.inside.pages.ok.0 ∙ none_if c.self.inside.pages.len c.is_empty.result c.is_empty.ensures c.if-is_empty.true in
    first_room c.self.inside.pages.items c.in_ok-pages.pages.items none c.in_ok-pages.ensures c.args.price c.requires.in_range c.in_ok-page.page c.in_ok-page.ensures

pub returns-then-is_empty-clause-kept : goal.returns-then-is_empty-clause-kept
returns-then-is_empty-clause-kept g c =
    let none = sym c.self.inside.pages.ok.0 ∙ none_if c.self.inside.pages.len c.is_empty.result c.is_empty.ensures c.if-is_empty.true in
    λ p had. first_kept c.self.inside.pages.items c.in_ok-pages.pages.items none c.in_ok-pages.ensures c.args.price c.requires.in_range c.in_ok-page.page c.in_ok-page.ensures p (rw (← c.self.view_is) at had)

pub returns-then-is_empty-clause-same : goal.returns-then-is_empty-clause-same
returns-then-is_empty-clause-same g c =
    let none = sym c.self.inside.pages.ok.0 ∙ none_if c.self.inside.pages.len c.is_empty.result c.is_empty.ensures c.if-is_empty.true in
    λ p. first_same c.self.inside.pages.items c.in_ok-pages.pages.items none c.in_ok-pages.ensures c.args.price c.requires.in_range c.in_ok-page.page c.in_ok-page.ensures p ∙ ap (λ (x : _). value_at x p) c.self.view_is

pub returns-clause-room : goal.returns-clause-room
returns-clause-room g c =
    let some = rw c.self.inside.pages.ok.0 at (some_if c.self.inside.pages.len c.is_empty.result c.is_empty.ensures c.if-is_empty.false) in
    let count = c.self.invariant.count some in
    let absent = no_room c.self.inside.pages.items c.self.invariant c.args.price (rw (← c.self.view_is) at c.requires.none) in
    room_made c.self.inside.pages.items c.args.price c.in_ok-page.page c.in_ok-page.ensures (rw count (omega arith)) absent

pub returns-clause-kept : goal.returns-clause-kept
returns-clause-kept g c =
    let some = rw c.self.inside.pages.ok.0 at (some_if c.self.inside.pages.len c.is_empty.result c.is_empty.ensures c.if-is_empty.false) in
    let count = c.self.invariant.count some in
    let absent = no_room c.self.inside.pages.items c.self.invariant c.args.price (rw (← c.self.view_is) at c.requires.none) in
    λ p had. room_kept c.self.inside.pages.items c.args.price c.in_ok-page.page c.in_ok-page.ensures (rw count (omega arith)) absent p (rw (← c.self.view_is) at had)

pub returns-clause-same : goal.returns-clause-same
returns-clause-same g c =
    let some = rw c.self.inside.pages.ok.0 at (some_if c.self.inside.pages.len c.is_empty.result c.is_empty.ensures c.if-is_empty.false) in
    let count = c.self.invariant.count some in
    let absent = no_room c.self.inside.pages.items c.self.invariant c.args.price (rw (← c.self.view_is) at c.requires.none) in
    λ p. lookup_unchanged c.self.inside.pages.items c.args.price c.in_ok-page.page c.in_ok-page.ensures (rw count (omega arith)) absent p ∙ ap (λ (x : _). value_at x p) c.self.view_is
