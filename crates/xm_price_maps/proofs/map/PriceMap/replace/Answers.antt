use Rattle.std.proofs.Common.{◌==◌, if◌then◌else◌, ◌/◌, ◌∙◌, [], None, ap, sym, rules}
use Rattle.std.proofs.lemmas.List.{get_or_default}
use Rattle.xm_price_maps.specs.Map.{value_at}
use Rattle.xm_price_maps.proofs.Lookups.{room_page, room_slot, lookup_is, lookup_written, room_written}
use Rattle.xm_price_maps.proofs.map.PriceMap.replace.Goals as goal
use Rattle.xm_price_maps.specs.declared.map.TheConstants.{PAGE_SLOTS}

pub index_mut-requires : goal.index_mut-requires
index_mut-requires g c =
    let inside = room_page c.self.inside.pages.items c.args.price (rw (← c.self.view_is) at c.requires.room) in
    search rules

pub replace-requires : goal.replace-requires
replace-requires g c =
    let room = rw (← c.self.view_is) at c.requires.room in
    let page = c.index_mut.ensures.value ∙ get_or_default c.self.inside.pages.items (c.args.price / PAGE_SLOTS) c.index_mut.result.now [] (room_page c.self.inside.pages.items c.args.price room) in
    rw page (room_slot c.self.inside.pages.items c.args.price room)

pub returns-clause-value : goal.returns-clause-value
returns-clause-value g c =
    let room = rw (← c.self.view_is) at c.requires.room in
    let page = c.index_mut.ensures.value ∙ get_or_default c.self.inside.pages.items (c.args.price / PAGE_SLOTS) c.index_mut.result.now [] (room_page c.self.inside.pages.items c.args.price room) in
    rw page at (c.replace.ensures.value None) ∙ sym (lookup_is c.self.inside.pages.items c.args.price) ∙ ap (λ (x : _). value_at x c.args.price) c.self.view_is

pub returns-clause-values : goal.returns-clause-values
returns-clause-values g c =
    let room = rw (← c.self.view_is) at c.requires.room in
    let page = c.index_mut.ensures.value ∙ get_or_default c.self.inside.pages.items (c.args.price / PAGE_SLOTS) c.index_mut.result.now [] (room_page c.self.inside.pages.items c.args.price room) in
    λ p. lookup_written c.self.inside.pages.items c.args.price c.replace.new.self c.args.value room (rw page at c.replace.ensures.values) p
    ∙ ap (λ (x : _). if p == c.args.price then c.args.value else value_at x p) c.self.view_is

pub returns-clause-kept : goal.returns-clause-kept
returns-clause-kept g c =
    let room = rw (← c.self.view_is) at c.requires.room in
    let page = c.index_mut.ensures.value ∙ get_or_default c.self.inside.pages.items (c.args.price / PAGE_SLOTS) c.index_mut.result.now [] (room_page c.self.inside.pages.items c.args.price room) in
    λ p had. room_written c.self.inside.pages.items c.args.price c.replace.new.self c.args.value room (rw page at c.replace.ensures.values) p (rw (← c.self.view_is) at had)
