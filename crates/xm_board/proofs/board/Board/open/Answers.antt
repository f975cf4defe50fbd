use Rattle.std.proofs.Common.{rules, ◌≡◌, ℕ, [], ◌∷◌, length, ◌∙◌, ap, sym, subst, ⊎_elim, length-append, ◌+◌}
use Rattle.std.specs.Prelude.{slice_get}
use Rattle.xm_board.specs.Rule.{with_next_number}
use Rattle.xm_board.specs.Journals.{opening_of, known_by}
use Rattle.xm_board.proofs.Prefixes.{get_push}
use Rattle.xm_board.specs.Opened.{Unnamed}
use Rattle.xm_board.specs.Published.{IsPublished}
use Rattle.xm_board.specs.declared.seats.View.{View}
use Rattle.xm_board.proofs.board.Board.open.Goals as goal

pub loop-number-preserved : goal.loop-number-preserved
loop-number-preserved g c =
    let i = c.loop-number.invariant in
    let d = c.make_watch.ensures in
    let items = c.push_reserved.ensures.items in
    let is : c.make_watch.result ≡ known_by c.loop-number.number (opening_of c.args.opened.settings) [] = d.watch ∙ ap (λ (v : View). known_by c.loop-number.number v.seen []) i.1 in (
      d.seat.0 ∙ i.0,
      d.seat.1 ∙ ap with_next_number i.1,
      search rules,
      search rules,
      ap length items ∙ length-append c.loop-number.row.items (c.make_watch.result ∷ []) ∙ ap (λ (n : ℕ). n + 1) i.4,
      λ k w at. ⊎_elim (i.5 k w) (λ t. sym t.1 ∙ is ∙ ap (λ (n : ℕ). known_by n (opening_of c.args.opened.settings) []) (sym (t.0 ∙ i.4)))
          (get_push c.loop-number.row.items c.make_watch.result k w (ap (λ l. slice_get l k) (sym items) ∙ at)),
    )

pub make_watch-requires-clause-published : goal.make_watch-requires-clause-published
make_watch-requires-clause-published g c =
    let published = subst (λ (o : Unnamed). IsPublished (opening_of o.settings)) c.opened.view_is c.opened.invariant.4 in
    subst (λ (v : View). IsPublished v.seen) (sym c.loop-number.invariant.1) published

pub invariant_of-pen : goal.invariant_of-pen
invariant_of-pen g c =
    let i = c.loop-number.invariant in
    let published = subst (λ (o : Unnamed). IsPublished (opening_of o.settings)) c.opened.view_is c.opened.invariant.4 in
    (i.0, ap (λ (v : View). v.role) i.1, ap (λ (v : View). v.stage) i.1, search rules, subst (λ (v : View). IsPublished v.seen) (sym i.1) published)
