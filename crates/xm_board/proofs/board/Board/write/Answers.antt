use Rattle.std.proofs.Common.{rules, ◌≡◌, ◌∙◌, ap, refl, arith}
use Rattle.xm_board.specs.Journals.{grown}
use Rattle.xm_board.specs.Published.{IsPublished, words_of}
use Rattle.xm_board.specs.declared.seats.View.{View}
use Rattle.xm_board.specs.declared.seats.Stage.TheVariants.{Writing}
use Rattle.xm_board.proofs.Steps.{begins_write, writes_word, ends_write}
use Rattle.xm_board.proofs.Prefixes.{begins_grown, version-grown}
use Rattle.xm_board.proofs.board.Board.write.Goals as goal

pub compare_exchange_with-requires : goal.compare_exchange_with-requires
compare_exchange_with-requires g c =
    let s = c.requires.seat in
    (search rules, search rules, begins_write IsPublished words_of 7 _ _ _ _ _ c.args.entry.now s.1 s.2 c.requires.sequence.0 refl (begins_grown c.args.seat.now.me.0.seen c.args.entry.now) (version-grown c.args.seat.now.me.0.seen c.args.entry.now) c.requires.published)

pub store-requires : goal.store-requires
store-requires g c =
    let i = c.loop-i.invariant in
    let s = c.requires.seat in
    let next = grown c.args.seat.now.me.0.seen c.args.entry.now in
    (search rules, search rules, writes_word IsPublished words_of 7 _ _ _ next c.loop-i.i _ (ap (λ (v : View). v.role) i.1 ∙ s.1) (ap (λ (v : View). v.stage) i.1) (omega arith) (search rules))

pub store-requires-2 : goal.store-requires-2
store-requires-2 g c =
    let i = c.loop-i.invariant in
    let s = c.requires.seat in
    let e : c.loop-i.i ≡ 7 = search rules in
    let next = grown c.args.seat.now.me.0.seen c.args.entry.now in
    (search rules, search rules, ends_write IsPublished words_of 7 _ _ _ next _ (ap (λ (v : View). v.role) i.1 ∙ s.1) (ap (λ (v : View). v.stage) i.1 ∙ ap (Writing next) e) (search rules))
