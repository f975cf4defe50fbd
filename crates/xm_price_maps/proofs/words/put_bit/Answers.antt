use Rattle.std.proofs.Common.{ℕ, ◌/◌, ◌∙◌, [], ap, sym, rules}
use Rattle.std.specs.Int.{bit_at}
use Rattle.std.proofs.lemmas.List.{get_or_default}
use Rattle.xm_price_maps.proofs.Stored.{word_page, word_slot, word_is, word-written, put, turned, stayed}
use Rattle.xm_price_maps.proofs.words.put_bit.Goals as goal
use Rattle.xm_price_maps.specs.declared.words.TheConstants.{PAGE_WORDS}

pub offset_bounds-pages-w : goal.offset_bounds-pages-w
offset_bounds-pages-w g c =
    let inside = word_page c.args.pages.now (c.args.place / 64) c.requires in
    search rules

pub bounds-pages-w : goal.bounds-pages-w
bounds-pages-w g c = word_page c.args.pages.now (c.args.place / 64) c.requires

pub replace-requires : goal.replace-requires
replace-requires g c =
    let inside = word_page c.args.pages.now (c.args.place / 64) c.requires in
    let page = get_or_default c.args.pages.now (c.args.place / 64 / PAGE_WORDS) c.index-pages-w.result [] inside in
    rw page (word_slot c.args.pages.now (c.args.place / 64) c.requires)

pub returns-clause-put : goal.returns-clause-put
returns-clause-put g c =
    let inside = word_page c.args.pages.now (c.args.place / 64) c.requires in
    let page = get_or_default c.args.pages.now (c.args.place / 64 / PAGE_WORDS) c.index-pages-w.result [] inside in
    let old = rw page at c.slot-old.ensures ∙ sym (word_is c.args.pages.now (c.args.place / 64)) in
    put c.args.pages.now c.args.place _ c.changed-new.result c.replace.new.self c.requires (rw page at c.replace.ensures.values) c.changed-new.ensures.marked
    (λ i within differs. c.changed-new.ensures.same i within differs ∙ ap (λ (x : ℕ). bit_at x i) old)
    (λ clear none. c.changed-new.ensures.empty clear (old ∙ none))

pub returns-clause-turned : goal.returns-clause-turned
returns-clause-turned g c =
    let inside = word_page c.args.pages.now (c.args.place / 64) c.requires in
    let page = get_or_default c.args.pages.now (c.args.place / 64 / PAGE_WORDS) c.index-pages-w.result [] inside in
    let old = rw page at c.slot-old.ensures ∙ sym (word_is c.args.pages.now (c.args.place / 64)) in
    rw (rw page at c.replace.ensures.values, word-written c.args.pages.now (c.args.place / 64) c.changed-new.result c.requires, ← old) (turned c.slot-old.result c.changed-new.result)

pub returns-clause-stayed : goal.returns-clause-stayed
returns-clause-stayed g c =
    let inside = word_page c.args.pages.now (c.args.place / 64) c.requires in
    let page = get_or_default c.args.pages.now (c.args.place / 64 / PAGE_WORDS) c.index-pages-w.result [] inside in
    let old = rw page at c.slot-old.ensures ∙ sym (word_is c.args.pages.now (c.args.place / 64)) in
    rw (rw page at c.replace.ensures.values, word-written c.args.pages.now (c.args.place / 64) c.changed-new.result c.requires, ← old) (stayed c.slot-old.result c.changed-new.result)
