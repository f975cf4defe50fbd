use Rattle.std.proofs.Common.{◌≡◌, ℕ, sym, ap, ◌∙◌, subst, arith, Option, Some, None}
use Rattle.xm_book.specs.Queued.{orders_of_level}
use Rattle.xm_slots.proofs.Tests.{some_none}
use Rattle.xm_book.proofs.Walking.{IsPassed, no-walk, walk-end, walk-found, walk-lies, walk-none, walk-on, walk-room, walk-start}
use Rattle.xm_book.proofs.order_queues.OrderQueues.first_later.Goals as goal
use Rattle.xm_ladders.specs.Ladder.{level_of}
use Rattle.xm_ladders.specs.Ladders.{ladder_on, level_on, side_of}

pub returns-in_err-level : goal.returns-in_err-level
returns-in_err-level g c =
    let q = c.self.inside in
    let e = c.args.entry.now in
    let none : level_on (side_of e.item.side q.ladders) c.args.restriction e.item.kind ≡ None =
    (λ i. level_of (ladder_on c.args.restriction (sym c.of.ensures i)) e.item.kind) ∙ ap (λ l. level_of l e.item.kind) (sym c.of-2.ensures) ∙ sym c.in_err-level.ensures in
    rw (c.from_residual.ensures, ← c.self.view_is)
    (no-walk q.listing q.entries q.links q.ladders c.self.invariant.queued c.args.phase e.item.side c.args.restriction e.item.kind q.adds c.self.invariant.rise c.requires e.time none)

pub loop-step-init : goal.loop-step-init
loop-step-init g c =
    let q = c.self.inside in
    let e = c.args.entry.now in
    let level : level_on (side_of e.item.side q.ladders) c.args.restriction e.item.kind ≡ Some c.in_ok-level.level =
    (λ i. level_of (ladder_on c.args.restriction (sym c.of.ensures i)) e.item.kind) ∙ ap (λ l. level_of l e.item.kind) (sym c.of-2.ensures) ∙ sym c.in_ok-level.ensures in
    walk-start q.listing q.entries q.links q.ladders c.self.invariant.queued c.args.phase e.item.side c.args.restriction e.item.kind q.adds c.self.invariant.rise c.requires e.time c.front-key.result c.in_ok-level.level level c.front-key.ensures

pub returns-in_err-at : goal.returns-in_err-at
returns-in_err-at g c =
    let q = c.self.inside in
    let e = c.args.entry.now in
    let w = subst (λ (key : Option ℕ). IsPassed (orders_of_level e.item.side c.args.restriction e.item.kind q.listing) e.time c.loop-step._step key) c.in_err-at.was c.loop-step.invariant in
    rw (c.from_residual-in_err-at.ensures, ← c.self.view_is)
    (walk-none q.listing q.entries q.links q.ladders c.self.invariant.queued c.args.phase e.item.side c.args.restriction e.item.kind q.adds c.self.invariant.rise c.requires e.time c.loop-step._step w)

pub returns-in_err-other : goal.returns-in_err-other
returns-in_err-other g c =
    let q = c.self.inside in
    let e = c.args.entry.now in
    let w = subst (λ (key : Option ℕ). IsPassed (orders_of_level e.item.side c.args.restriction e.item.kind q.listing) e.time c.loop-step._step key) c.in_ok-at.was c.loop-step.invariant in
    absurd (some_none (sym (walk-lies q.listing q.entries q.links q.ladders c.self.invariant.queued c.args.phase e.item.side c.args.restriction e.item.kind q.adds c.self.invariant.rise c.requires e.time c.loop-step._step c.in_ok-at.at w) ∙ sym c.in_err-other.ensures))

pub returns-then-entry-other : goal.returns-then-entry-other
returns-then-entry-other g c =
    let q = c.self.inside in
    let e = c.args.entry.now in
    let w = subst (λ (key : Option ℕ). IsPassed (orders_of_level e.item.side c.args.restriction e.item.kind q.listing) e.time c.loop-step._step key) c.in_ok-at.was c.loop-step.invariant in
    rw (← c.self.view_is)
    (walk-found q.listing q.entries q.links q.ladders c.self.invariant.queued c.args.phase e.item.side c.args.restriction e.item.kind q.adds c.self.invariant.rise c.requires e.time c.loop-step._step c.in_ok-at.at w c.in_ok-other.other.now (sym c.in_ok-other.ensures) c.if-entry-other.true)

pub next-key-requires : goal.next-key-requires
next-key-requires g c =
    let q = c.self.inside in
    let e = c.args.entry.now in
    let w = subst (λ (key : Option ℕ). IsPassed (orders_of_level e.item.side c.args.restriction e.item.kind q.listing) e.time c.loop-step._step key) c.in_ok-at.was c.loop-step.invariant in
    walk-room q.listing q.entries q.links q.ladders c.self.invariant.queued c.args.phase e.item.side c.args.restriction e.item.kind q.adds c.self.invariant.rise c.requires e.time c.loop-step._step c.in_ok-at.at w

pub loop-step-preserved : goal.loop-step-preserved
loop-step-preserved g c =
    let q = c.self.inside in
    let e = c.args.entry.now in
    let w = subst (λ (key : Option ℕ). IsPassed (orders_of_level e.item.side c.args.restriction e.item.kind q.listing) e.time c.loop-step._step key) c.in_ok-at.was c.loop-step.invariant in
    walk-on q.listing q.entries q.links q.ladders c.self.invariant.queued c.args.phase e.item.side c.args.restriction e.item.kind q.adds c.self.invariant.rise c.requires e.time c.loop-step._step c.in_ok-at.at w c.in_ok-other.other.now (sym c.in_ok-other.ensures) c.if-entry-other.false c.next-key.result c.next-key.ensures

pub returns : goal.returns
returns g c =
    let q = c.self.inside in
    let e = c.args.entry.now in
    let level : level_on (side_of e.item.side q.ladders) c.args.restriction e.item.kind ≡ Some c.in_ok-level.level =
    (λ i. level_of (ladder_on c.args.restriction (sym c.of.ensures i)) e.item.kind) ∙ ap (λ l. level_of l e.item.kind) (sym c.of-2.ensures) ∙ sym c.in_ok-level.ensures in
    rw (← c.self.view_is)
    (walk-end q.listing q.entries q.links q.ladders c.self.invariant.queued c.args.phase e.item.side c.args.restriction e.item.kind q.adds c.self.invariant.rise c.requires e.time c.loop-step._step c.loop-step.key c.in_ok-level.level level c.loop-step.invariant (omega arith))
