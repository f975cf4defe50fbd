use Rattle.std.proofs.Common.{◌∙◌, ◌/◌, [], set, rules}
use Rattle.std.proofs.lemmas.List.{get_or_default}
use Rattle.xm_price_maps.specs.declared.sums.GroupWidth.TheVariants.{Narrow, Middle, Wide}
use Rattle.xm_price_maps.specs.declared.sums.TheConstants.{WIDE_GROUPS, WIDE_PLACES}
use Rattle.xm_price_maps.proofs.Summing.{first_slot, first_sum, last_inside, last_page, narrow_slot, narrow_sum, page_inside, shape_put, sums_put, wide_slot, wide_sum}
use Rattle.xm_price_maps.proofs.sums.put_sums.Goals as goal

pub offset_bounds-pages-wide : goal.offset_bounds-pages-wide
offset_bounds-pages-wide g c =
    let inside = page_inside c.args.pages.now c.args.place c.requires.in_range c.requires.slots in
    search rules

pub bounds-pages-wide : goal.bounds-pages-wide
bounds-pages-wide g c =
    page_inside c.args.pages.now c.args.place c.requires.in_range c.requires.slots

pub put_sum-requires-clause-slot : goal.put_sum-requires-clause-slot
put_sum-requires-clause-slot g c =
    let page = get_or_default c.args.pages.now (c.args.place / WIDE_PLACES) c.index-pages-wide.result [] (page_inside c.args.pages.now c.args.place c.requires.in_range c.requires.slots) in
    rw page (narrow_slot c.args.pages.now c.args.place c.requires.in_range c.requires.slots)

pub put_sum-requires-clause-there : goal.put_sum-requires-clause-there
put_sum-requires-clause-there g c =
    let page = get_or_default c.args.pages.now (c.args.place / WIDE_PLACES) c.index-pages-wide.result [] (page_inside c.args.pages.now c.args.place c.requires.in_range c.requires.slots) in
    rw (page, narrow_sum c.args.pages.now c.args.place c.requires.in_range c.requires.slots) (c.requires.there Narrow)

pub put_sum-requires-clause-fits : goal.put_sum-requires-clause-fits
put_sum-requires-clause-fits g c =
    let page = get_or_default c.args.pages.now (c.args.place / WIDE_PLACES) c.index-pages-wide.result [] (page_inside c.args.pages.now c.args.place c.requires.in_range c.requires.slots) in
    rw (page, narrow_sum c.args.pages.now c.args.place c.requires.in_range c.requires.slots) (c.requires.fits Narrow)

pub put_sum-requires-2-clause-slot : goal.put_sum-requires-2-clause-slot
put_sum-requires-2-clause-slot g c =
    let page = get_or_default c.args.pages.now (c.args.place / WIDE_PLACES) c.index-pages-wide.result [] (page_inside c.args.pages.now c.args.place c.requires.in_range c.requires.slots) in
    first_slot c.args.pages.now c.args.place c.requires.in_range c.requires.slots c.args.old c.args.new c.put_sum.new.page (rw page at c.put_sum.ensures)

pub put_sum-requires-2-clause-there : goal.put_sum-requires-2-clause-there
put_sum-requires-2-clause-there g c =
    let page = get_or_default c.args.pages.now (c.args.place / WIDE_PLACES) c.index-pages-wide.result [] (page_inside c.args.pages.now c.args.place c.requires.in_range c.requires.slots) in
    rw (first_sum c.args.pages.now c.args.place c.requires.in_range c.requires.slots c.args.old c.args.new c.put_sum.new.page (rw page at c.put_sum.ensures)) (c.requires.there Middle)

pub put_sum-requires-2-clause-fits : goal.put_sum-requires-2-clause-fits
put_sum-requires-2-clause-fits g c =
    let page = get_or_default c.args.pages.now (c.args.place / WIDE_PLACES) c.index-pages-wide.result [] (page_inside c.args.pages.now c.args.place c.requires.in_range c.requires.slots) in
    rw (first_sum c.args.pages.now c.args.place c.requires.in_range c.requires.slots c.args.old c.args.new c.put_sum.new.page (rw page at c.put_sum.ensures)) (c.requires.fits Middle)

pub offset_bounds-256 : goal.offset_bounds-256
offset_bounds-256 g c =
    let inside = last_inside c.args.pages.now c.args.place c.requires.in_range c.requires.slots c.put_sum-2.new.page in
    search rules

pub bounds-pages-256 : goal.bounds-pages-256
bounds-pages-256 g c =
    last_inside c.args.pages.now c.args.place c.requires.in_range c.requires.slots c.put_sum-2.new.page

pub put_sum-requires-3-clause-slot : goal.put_sum-requires-3-clause-slot
put_sum-requires-3-clause-slot g c =
    let last = get_or_default (set c.args.pages.now (c.args.place / WIDE_PLACES) c.put_sum-2.new.page) WIDE_GROUPS c.index-pages-256.result [] (last_inside c.args.pages.now c.args.place c.requires.in_range c.requires.slots c.put_sum-2.new.page) ∙ last_page c.args.pages.now c.args.place c.requires.in_range c.requires.slots c.put_sum-2.new.page in
    rw last (wide_slot c.args.pages.now c.args.place c.requires.in_range c.requires.slots)

pub put_sum-requires-3-clause-there : goal.put_sum-requires-3-clause-there
put_sum-requires-3-clause-there g c =
    let last = get_or_default (set c.args.pages.now (c.args.place / WIDE_PLACES) c.put_sum-2.new.page) WIDE_GROUPS c.index-pages-256.result [] (last_inside c.args.pages.now c.args.place c.requires.in_range c.requires.slots c.put_sum-2.new.page) ∙ last_page c.args.pages.now c.args.place c.requires.in_range c.requires.slots c.put_sum-2.new.page in
    rw (last, wide_sum c.args.pages.now c.args.place c.requires.in_range c.requires.slots) (c.requires.there Wide)

pub put_sum-requires-3-clause-fits : goal.put_sum-requires-3-clause-fits
put_sum-requires-3-clause-fits g c =
    let last = get_or_default (set c.args.pages.now (c.args.place / WIDE_PLACES) c.put_sum-2.new.page) WIDE_GROUPS c.index-pages-256.result [] (last_inside c.args.pages.now c.args.place c.requires.in_range c.requires.slots c.put_sum-2.new.page) ∙ last_page c.args.pages.now c.args.place c.requires.in_range c.requires.slots c.put_sum-2.new.page in
    rw (last, wide_sum c.args.pages.now c.args.place c.requires.in_range c.requires.slots) (c.requires.fits Wide)

pub returns-clause-sums : goal.returns-clause-sums
returns-clause-sums g c =
    let page = get_or_default c.args.pages.now (c.args.place / WIDE_PLACES) c.index-pages-wide.result [] (page_inside c.args.pages.now c.args.place c.requires.in_range c.requires.slots) in
    let last = get_or_default (set c.args.pages.now (c.args.place / WIDE_PLACES) c.put_sum-2.new.page) WIDE_GROUPS c.index-pages-256.result [] (last_inside c.args.pages.now c.args.place c.requires.in_range c.requires.slots c.put_sum-2.new.page) ∙ last_page c.args.pages.now c.args.place c.requires.in_range c.requires.slots c.put_sum-2.new.page in
    sums_put c.args.pages.now c.args.place c.requires.in_range c.requires.slots c.args.old c.args.new c.put_sum.new.page (rw page at c.put_sum.ensures) c.put_sum-2.new.page c.put_sum-3.new.page c.put_sum-2.ensures (rw last at c.put_sum-3.ensures)

pub returns-clause-shape : goal.returns-clause-shape
returns-clause-shape g c =
    let page = get_or_default c.args.pages.now (c.args.place / WIDE_PLACES) c.index-pages-wide.result [] (page_inside c.args.pages.now c.args.place c.requires.in_range c.requires.slots) in
    let last = get_or_default (set c.args.pages.now (c.args.place / WIDE_PLACES) c.put_sum-2.new.page) WIDE_GROUPS c.index-pages-256.result [] (last_inside c.args.pages.now c.args.place c.requires.in_range c.requires.slots c.put_sum-2.new.page) ∙ last_page c.args.pages.now c.args.place c.requires.in_range c.requires.slots c.put_sum-2.new.page in
    shape_put c.args.pages.now c.args.place c.requires.in_range c.requires.slots c.args.old c.args.new c.put_sum.new.page (rw page at c.put_sum.ensures) c.put_sum-2.new.page c.put_sum-3.new.page c.put_sum-2.ensures (rw last at c.put_sum-3.ensures)
