use Rattle.std.proofs.Common.{rules, ◌≡◌, ◌+◌, Some, arith}
use Rattle.std.specs.Prelude.{slice_get}
use Rattle.xm_segment.proofs.Boards.{column-popped}
use Rattle.xm_segment.proofs.named.last_watch.Given.{Over}
use Rattle.xm_segment.proofs.named.last_watch.Goals.{After-pop}
use Rattle.xm_segment.specs.Boards.{IsColumn}
use Rattle.xm_segment.specs.Watches.{fresh_watch}
use Rattle.xm_segment.proofs.named.last_watch.Goals as goal

popped : (g : Over) (c : After-pop g) → IsColumn c.args.number (slice_get g.S.Naming.settings g.row.K) (Some c.pop.new.self.items) × (c.pop.result ≡ fresh_watch c.args.number (slice_get g.S.Naming.settings g.row.K))
popped g c =
    let here = slice_get g.S.Naming.settings g.row.K in
    let column : IsColumn (c.args.number + 1) here (Some c.in-Some.watches.items) = search (rules, c.requires, c.in-Some.is) in
    column-popped here c.args.number c.in-Some.watches.items c.pop.new.self.items c.pop.result c.pop.ensures.items (λ none. search (rules, none, arith)) column

pub returns-in-Some-clause-left : goal.returns-in-Some-clause-left
returns-in-Some-clause-left g c = (popped g c).0

pub returns-in-Some-clause-watch : goal.returns-in-Some-clause-watch
returns-in-Some-clause-watch g c = (popped g c).1
