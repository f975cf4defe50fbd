use Rattle.std.proofs.Common.{◌/◌, ◌∙◌, refl, ap, sym, arith}
use Rattle.xm_price_maps.specs.Set.{Prices, has}
use Rattle.xm_price_maps.proofs.Paging.{none_if, some_if}
use Rattle.xm_price_maps.proofs.Stored.{word_none}
use Rattle.xm_price_maps.proofs.Rooms.{no_room, room_inside, made_room, made_same, made_sound, made_shaped, made_kept}
use Rattle.xm_price_maps.proofs.set.PriceSet.make_room.Goals as goal
use Rattle.xm_price_maps.specs.declared.set.TheConstants.{PAGE_PRICES}

pub index_mut-requires : goal.index_mut-requires
index_mut-requires g c = rw (c.in_ok-pages.pages.ok.0, c.in_ok-pages.ensures.count) (omega arith)

pub invariant_of-self : goal.invariant_of-self
invariant_of-self g c =
    let none = sym c.self.inside.pages.ok.0 ∙ none_if c.self.inside.pages.len c.is_empty.result c.is_empty.ensures c.if-is_empty.true in
    record {
      sound = made_sound (record { pages = c.self.inside.pages.items }) c.in_ok-pages.pages.items c.args.price c.requires.in_range c.in_ok-page.page c.in_ok-page.ensures
          c.in_ok-pages.ensures.count (c.in_ok-pages.ensures.absent (c.args.price / PAGE_PRICES) (omega arith)) c.in_ok-pages.ensures.shaped (λ w. c.in_ok-pages.ensures.clear w ∙ sym (word_none c.self.inside.pages.items none w)) c.self.invariant.sound;
      shaped = made_shaped (record { pages = c.self.inside.pages.items }) c.in_ok-pages.pages.items c.args.price c.requires.in_range c.in_ok-page.page c.in_ok-page.ensures
          c.in_ok-pages.ensures.count (c.in_ok-pages.ensures.absent (c.args.price / PAGE_PRICES) (omega arith)) c.in_ok-pages.ensures.shaped (λ w. c.in_ok-pages.ensures.clear w ∙ sym (word_none c.self.inside.pages.items none w));
    }

pub index_mut-requires-2 : goal.index_mut-requires-2
index_mut-requires-2 g c =
    let some = rw c.self.inside.pages.ok.0 at (some_if c.self.inside.pages.len c.is_empty.result c.is_empty.ensures c.if-is_empty.false) in
    let count = c.self.invariant.shaped.count some in
    rw (c.self.inside.pages.ok.0, count) (omega arith)

pub invariant_of-self-2 : goal.invariant_of-self-2
invariant_of-self-2 g c =
    let some = rw c.self.inside.pages.ok.0 at (some_if c.self.inside.pages.len c.is_empty.result c.is_empty.ensures c.if-is_empty.false) in
    let count = c.self.invariant.shaped.count some in
    let absent = no_room (record { pages = c.self.inside.pages.items }) c.args.price c.requires.in_range c.self.invariant.shaped (rw (← c.self.view_is) at c.requires.none) in
    record {
      sound = made_sound (record { pages = c.self.inside.pages.items }) c.self.inside.pages.items c.args.price c.requires.in_range c.in_ok-page.page c.in_ok-page.ensures
          count absent c.self.invariant.shaped (λ w. refl) c.self.invariant.sound;
      shaped = made_shaped (record { pages = c.self.inside.pages.items }) c.self.inside.pages.items c.args.price c.requires.in_range c.in_ok-page.page c.in_ok-page.ensures
          count absent c.self.invariant.shaped (λ w. refl);
    }

pub returns-then-is_empty-clause-room : goal.returns-then-is_empty-clause-room
returns-then-is_empty-clause-room g c =
    let none = sym c.self.inside.pages.ok.0 ∙ none_if c.self.inside.pages.len c.is_empty.result c.is_empty.ensures c.if-is_empty.true in
    made_room (record { pages = c.self.inside.pages.items }) c.in_ok-pages.pages.items c.args.price c.requires.in_range c.in_ok-page.page c.in_ok-page.ensures
    c.in_ok-pages.ensures.count (c.in_ok-pages.ensures.absent (c.args.price / PAGE_PRICES) (omega arith)) c.in_ok-pages.ensures.shaped (λ w. c.in_ok-pages.ensures.clear w ∙ sym (word_none c.self.inside.pages.items none w))

pub returns-then-is_empty-clause-kept : goal.returns-then-is_empty-clause-kept
returns-then-is_empty-clause-kept g c =
    let none = sym c.self.inside.pages.ok.0 ∙ none_if c.self.inside.pages.len c.is_empty.result c.is_empty.ensures c.if-is_empty.true in
    λ p had. absurd (let there = room_inside (record { pages = c.self.inside.pages.items }) p (rw (← c.self.view_is) at had) in omega arith)

pub returns-then-is_empty-clause-same : goal.returns-then-is_empty-clause-same
returns-then-is_empty-clause-same g c =
    let none = sym c.self.inside.pages.ok.0 ∙ none_if c.self.inside.pages.len c.is_empty.result c.is_empty.ensures c.if-is_empty.true in
    λ p. made_same (record { pages = c.self.inside.pages.items }) c.in_ok-pages.pages.items c.args.price c.requires.in_range c.in_ok-page.page c.in_ok-page.ensures
    c.in_ok-pages.ensures.count (c.in_ok-pages.ensures.absent (c.args.price / PAGE_PRICES) (omega arith)) c.in_ok-pages.ensures.shaped (λ w. c.in_ok-pages.ensures.clear w ∙ sym (word_none c.self.inside.pages.items none w)) p ∙ ap (λ (s : Prices). has s p) c.self.view_is

pub returns-clause-room : goal.returns-clause-room
returns-clause-room g c =
    let some = rw c.self.inside.pages.ok.0 at (some_if c.self.inside.pages.len c.is_empty.result c.is_empty.ensures c.if-is_empty.false) in
    let count = c.self.invariant.shaped.count some in
    let absent = no_room (record { pages = c.self.inside.pages.items }) c.args.price c.requires.in_range c.self.invariant.shaped (rw (← c.self.view_is) at c.requires.none) in
    made_room (record { pages = c.self.inside.pages.items }) c.self.inside.pages.items c.args.price c.requires.in_range c.in_ok-page.page c.in_ok-page.ensures
    count absent c.self.invariant.shaped (λ w. refl)

pub returns-clause-kept : goal.returns-clause-kept
returns-clause-kept g c =
    let some = rw c.self.inside.pages.ok.0 at (some_if c.self.inside.pages.len c.is_empty.result c.is_empty.ensures c.if-is_empty.false) in
    let count = c.self.invariant.shaped.count some in
    let absent = no_room (record { pages = c.self.inside.pages.items }) c.args.price c.requires.in_range c.self.invariant.shaped (rw (← c.self.view_is) at c.requires.none) in
    λ p had. made_kept (record { pages = c.self.inside.pages.items }) c.self.inside.pages.items c.args.price c.requires.in_range c.in_ok-page.page c.in_ok-page.ensures
    count absent c.self.invariant.shaped (λ w. refl) p (rw (← c.self.view_is) at had)

pub returns-clause-same : goal.returns-clause-same
returns-clause-same g c =
    let some = rw c.self.inside.pages.ok.0 at (some_if c.self.inside.pages.len c.is_empty.result c.is_empty.ensures c.if-is_empty.false) in
    let count = c.self.invariant.shaped.count some in
    let absent = no_room (record { pages = c.self.inside.pages.items }) c.args.price c.requires.in_range c.self.invariant.shaped (rw (← c.self.view_is) at c.requires.none) in
    λ p. made_same (record { pages = c.self.inside.pages.items }) c.self.inside.pages.items c.args.price c.requires.in_range c.in_ok-page.page c.in_ok-page.ensures
    count absent c.self.invariant.shaped (λ w. refl) p ∙ ap (λ (s : Prices). has s p) c.self.view_is
