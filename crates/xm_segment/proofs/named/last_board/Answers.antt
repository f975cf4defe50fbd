use Rattle.std.proofs.Common.{rules, Option, Some, arith, subst, sym}
use Rattle.xm_rules.specs.declared.settings.DeskSettings.{DeskSettings}
use Rattle.xm_segment.proofs.Boards.{last-board}
use Rattle.xm_segment.specs.Boards.{IsFresh}
use Rattle.xm_segment.proofs.named.last_board.Goals as goal

pub returns-in_err-board-clause-left : goal.returns-in_err-board-clause-left
returns-in_err-board-clause-left g c =
    (last-board g.S.Naming.settings g.S.Naming.boards g.row.K c.args.boards.now.items c.pop.new.self.items c.in-Some.opened (search rules) (search (rules, arith)) c.requires).0

pub returns-clause-left : goal.returns-clause-left
returns-clause-left g c =
    (last-board g.S.Naming.settings g.S.Naming.boards g.row.K c.args.boards.now.items c.pop.new.self.items c.in-Some.opened (search rules) (search (rules, arith)) c.requires).0

pub returns-clause-fresh : goal.returns-clause-fresh
returns-clause-fresh g c =
    let taken = last-board g.S.Naming.settings g.S.Naming.boards g.row.K c.args.boards.now.items c.pop.new.self.items c.in-Some.opened (search rules) (search (rules, arith)) c.requires in
    let made = c.in_ok-board.ensures in
    subst (λ (here : Option DeskSettings). IsFresh c.args.rows here (Some (record { published = c.in_ok-board.pen; watches = c.in_ok-board.watches.items }))) (sym taken.1)
    (made.pen, record { all = made.count; each = made.watches })
