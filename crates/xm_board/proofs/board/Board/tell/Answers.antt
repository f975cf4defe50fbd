use Rattle.std.proofs.Common.{rules, ◌≡◌, ◌<◌, ℕ, ◌++◌, true, ◌∙◌, ap, sym, subst}
use Rattle.xm_board.specs.Journals.{quote_of, Own, version_of, last_number_in}
use Rattle.xm_board.specs.Published.{IsPublished, words_of}
use Rattle.xm_board.specs.Rule.{taking, shared_as}
use Rattle.xm_board.specs.declared.journal.NumberedJournal.{NumberedJournal}
use Rattle.xm_board.specs.declared.watch.Known.{Known}
use Rattle.xm_board.specs.declared.seats.View.{View}
use Rattle.xm_board.proofs.Steps.{takes_seen}
use Rattle.xm_board.proofs.Prefixes.{told}
use Rattle.xm_board.proofs.board.Board.tell.Goals as goal

pub join_seat-requires : goal.join_seat-requires
join_seat-requires g c =
    let own = c.args.own in
    let pen = c.pen.inside.seat.me.0 in
    let watch = c.watch.inside.seat.me.0 in
    let e = c.share-told.result.me.0 in
    let i = c.watch.invariant in
    let s = c.share-told.ensures.shared in
    let w = c.compare.ensures.watch.1 in
    let asked : own ≡ true → (version_of watch.seen < version_of pen.seen) × (last_number_in pen.seen.entries ≡ c.watch.inside.number) = subst (λ (z : Known × NumberedJournal). own ≡ true → (version_of z.0.seen < version_of z.1) × (last_number_in z.1.entries ≡ z.0.number)) (λ i. (sym c.watch.view_is i, sym c.pen.view_is i)) c.requires.own in
    let t = told own c.watch.inside.number pen watch e (ap (λ m. m.0) s.1 ∙ ap (shared_as own) c.compare.ensures.pen.1) c.compare.ensures.begins asked i.5 in
    let own_entries : Own c.compare.new.watch.me.0.number e.seen.entries 0 (c.compare.new.watch.me.0.own_entries ++ e.own_entries) = subst (λ (v : View). Own v.number e.seen.entries 0 (v.own_entries ++ e.own_entries)) (sym w) (subst (λ (n : ℕ). Own n e.seen.entries 0 (watch.own_entries ++ e.own_entries)) (sym i.2) t.3) in
    (search rules, search rules, ap (λ m. m.1) s.1, search rules, takes_seen IsPublished words_of 7 _ _ _ _ (ap (λ (v : View). v.role) w ∙ i.1) t.0 own_entries)

pub invariant_of-watch : goal.invariant_of-watch
invariant_of-watch g c =
    let own = c.args.own in
    let pen = c.pen.inside.seat.me.0 in
    let watch = c.watch.inside.seat.me.0 in
    let e = c.share-told.result.me.0 in
    let i = c.watch.invariant in
    let p = c.pen.invariant in
    let s = c.share-told.ensures.shared in
    let j = c.join_seat.ensures in
    let asked : own ≡ true → (version_of watch.seen < version_of pen.seen) × (last_number_in pen.seen.entries ≡ c.watch.inside.number) = subst (λ (z : Known × NumberedJournal). own ≡ true → (version_of z.0.seen < version_of z.1) × (last_number_in z.1.entries ≡ z.0.number)) (λ i. (sym c.watch.view_is i, sym c.pen.view_is i)) c.requires.own in
    let t = told own c.watch.inside.number pen watch e (ap (λ m. m.0) s.1 ∙ ap (shared_as own) c.compare.ensures.pen.1) c.compare.ensures.begins asked i.5 in
    let now : c.join_seat.new.seat.me.0 ≡ taking watch e = ap (λ m. m.0) j.2 ∙ ap (λ (v : View). taking v e) c.compare.ensures.watch.1 in
    let seen : c.join_seat.new.seat.me.0.seen ≡ pen.seen = ap (λ (v : View). v.seen) now ∙ t.1 in (
      j.0 ∙ c.compare.ensures.watch.0 ∙ i.0,
      ap (λ (v : View). v.role) now ∙ i.1,
      ap (λ (v : View). v.number) now ∙ i.2,
      p.3 ∙ ap quote_of (sym seen),
      subst IsPublished (sym seen) p.4,
      subst (λ (v : View). Own c.watch.inside.number v.seen.entries 0 v.own_entries) (sym now) t.3,
    )
