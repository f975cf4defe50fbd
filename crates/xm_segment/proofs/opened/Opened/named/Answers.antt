use Rattle.std.proofs.Common.{◌≡◌, ◌+◌, ◌∙◌, ℕ, ap, arith, length, map, subst, sym}
use Rattle.xm_segment.proofs.Boards.{boards-named, named-desks}
use Rattle.xm_segment.specs.Boards.{AreLeft}
use Rattle.xm_segment.specs.Names.{UnnamedSegment, board_names}
use Rattle.xm_segment.specs.Seats.{AreRows}
use Rattle.xm_segment.proofs.opened.Opened.named.Goals as goal

pub named_boards-requires-clause-boards : goal.named_boards-requires-clause-boards
named_boards-requires-clause-boards g c =
    let view = c.self.view_is in
    let named = c.requires.named in
    boards-named g.S.Naming.settings g.S.Naming.boards c.self.inside.boards.items (named.settings_are ∙ ap (λ (o : UnnamedSegment). o.settings) (sym view)) (named.boards_are ∙ ap (λ (o : UnnamedSegment). board_names o.boards) (sym view))

pub lanes_of-lanes-requires-clause-desks : goal.lanes_of-lanes-requires-clause-desks
lanes_of-lanes-requires-clause-desks g c =
    let named = c.requires.named in
    named-desks g.S.Naming.settings (map (λ desk. desk.value) c.self.inside.desks.items) c.self.inside.boards.items (named.settings_are ∙ ap (λ (o : UnnamedSegment). o.settings) (sym c.self.view_is)) c.self.invariant.desks

pub seated-seats-requires-clause-rows : goal.seated-seats-requires-clause-rows
seated-seats-requires-clause-rows g c =
    let left = c.rows_of-waiting.ensures in
    let all : c.args.all ≡ length c.rows_of-waiting.result.items = omega (arith, left.all) in
    subst (λ (n : ℕ). AreLeft g.S.Naming.settings n 0 c.rows_of-waiting.result.items) all left

pub ordered-requires-clause-left : goal.ordered-requires-clause-left
ordered-requires-clause-left g c =
    let left = c.seated-seats.ensures.left in
    let first : c.self.inside.workers ≡ g.S.Naming.workers = ap (λ (o : UnnamedSegment). o.workers) c.self.view_is ∙ sym c.requires.named.workers_are in
    let all : length c.rows_of-waiting.result.items ≡ g.S.Naming.workers + length c.seated-seats.new.rows.items = omega (arith, left.all, first) in
    subst (λ (n : ℕ). AreLeft g.S.Naming.settings n g.S.Naming.workers c.seated-seats.new.rows.items) all (subst (λ (n : ℕ). AreLeft g.S.Naming.settings (length c.rows_of-waiting.result.items) n c.seated-seats.new.rows.items) first left)

pub returns-clause-rows : goal.returns-clause-rows
returns-clause-rows g c =
    let rows = c.ordered.ensures in
    let left = c.seated-seats.ensures.left in
    let view = c.self.view_is in
    let first : c.self.inside.workers ≡ c.args.self.workers = ap (λ (o : UnnamedSegment). o.workers) view in
    let whole : length c.rows_of-waiting.result.items ≡ c.args.self.workers + c.args.self.watchers = omega (arith, c.rows_of-waiting.ensures.all, c.requires.all) in
    let count : length c.seated-seats.new.rows.items ≡ c.args.self.watchers = omega (arith, left.all, first, whole) in
    subst (λ (n : ℕ). AreRows g.S.Naming.settings c.args.self.workers n c.ordered.result.items) count (subst (λ (n : ℕ). AreRows g.S.Naming.settings n (length c.seated-seats.new.rows.items) c.ordered.result.items) c.requires.named.workers_are rows)
