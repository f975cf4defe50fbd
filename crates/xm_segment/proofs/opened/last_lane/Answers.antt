use Rattle.std.proofs.Common.{List, Some, ◌∙◌, arith, subst, sym}
use Rattle.std.specs.Prelude.{slice_get}
use Rattle.xm_board.specs.declared.watch.Known.{Known}
use Rattle.xm_segment.proofs.Boards.{fresh-column, last-taken}
use Rattle.xm_segment.specs.Boards.{IsColumn, IsFresh}
use Rattle.xm_segment.proofs.opened.last_lane.Goals as goal

pub new-requires : goal.new-requires
new-requires g c =
    let settings = g.S.Naming.settings in
    let board = c.requires.board in
    let fresh = subst (IsFresh board.0 (slice_get settings g.row.K)) c.in-Some.is board.1 in
    let opens = last-taken settings g.row.K board.0 c.args.desks.now.items c.pop.new.self.items c.pop.result c.in-Some-pop.desk c.in-Some.named c.requires.desks c.pop.ensures.items c.in-Some-pop.is fresh in
    let unwritten = c.into_parts-board.ensures.pen ∙ opens.unwritten in
    search (arith, opens.opened, opens.fresh, c.requires.books, unwritten)

pub returns : goal.returns
returns g c =
    let settings = g.S.Naming.settings in
    let here = slice_get settings g.row.K in
    let board = c.requires.board in
    let fresh = subst (IsFresh board.0 here) c.in-Some.is board.1 in
    let opens = last-taken settings g.row.K board.0 c.args.desks.now.items c.pop.new.self.items c.pop.result c.in-Some-pop.desk c.in-Some.named c.requires.desks c.pop.ensures.items c.in-Some-pop.is fresh in
    record {
      left = opens.left_are;
      column = λ rows is. subst (λ (ws : List Known). IsColumn rows here (Some ws)) (sym c.into_parts-board.ensures.watches) (fresh-column rows here (Some c.in-Some.named) (subst (IsFresh rows here) c.in-Some.is is));
    }
