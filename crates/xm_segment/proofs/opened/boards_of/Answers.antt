use Rattle.std.proofs.Common.{rules, ◌∙◌, Some, List, ap, map, sym}
use Rattle.std.proofs.lemmas.Option.{slice_get-get_or}
use Rattle.xm_board.specs.Opened.{Unnamed}
use Rattle.xm_rules.specs.Step.{Journal}
use Rattle.xm_segment.proofs.Boards.{boards-more, fresh-quote}
use Rattle.xm_segment.proofs.opened.boards_of.Goals as goal

pub new-requires : goal.new-requires
new-requires c =
    let i = c.loop-desk.desk-index in
    let desk = c.desk-item.result in
    let at = slice_get-get_or c.args.desks.now i desk c.loop-desk-test.true ∙ ap (λ (j : Journal). Some j) (sym c.desk-item.is) in
    record { carried = c.settings.ensures.carriable; quote = fresh-quote desk c.quote.result c.settings.result.now c.quote.ensures (c.requires i desk at) c.settings.ensures.opened }

pub loop-desk-preserved : goal.loop-desk-preserved
loop-desk-preserved c =
    let i = c.loop-desk.desk-index in
    let desk = c.desk-item.result in
    let settings = c.in_ok-board.ensures ∙ c.settings.ensures.opened ∙ ap (λ (j : Journal). j.settings) c.desk-item.is in
    record {
      boards = ap (λ (bs : List Unnamed). map (λ (b : Unnamed). b.settings) bs) c.push_reserved.ensures.items ∙ boards-more c.args.desks.now c.loop-desk.boards.items c.in_ok-board.board i desk c.loop-desk-test.true c.loop-desk.invariant.boards settings;
      room = search rules;
    }
