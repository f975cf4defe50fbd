use Rattle.std.proofs.Common.{rules, ◌≡◌, ℕ, true, List, ◌∷◌, ◌++◌, Contains, Some, None, refl, sym, ap, ◌∙◌, subst, option_copied}
use Rattle.xm_slots.specs.Slots.{get}
use Rattle.xm_slots.specs.declared.entry.Entry.{Entry}
use Rattle.xm_slots.proofs.Tests.{same_some, some_none}
use Rattle.xm_book.proofs.Walking.{own-member, own-next, own-room}
use Rattle.xm_book.proofs.order_queues.OrderQueues.later_in.Goals as goal
use Rattle.xm_queues.specs.Queue.{IsQueue}
use Rattle.xm_queues.specs.declared.queues.Ends.{Ends}
use Rattle.xm_rules.specs.Active.{is_active}
use Rattle.xm_rules.specs.declared.orders.Order.{Order}

pub next-requires : goal.next-requires
next-requires g c =
    let q = c.self.inside in
    let e = c.args.entry.now in
    let on : is_active c.args.phase c.args.restriction ≡ true = search rules in
    let own : c.args.restriction ≡ e.item.restriction = search rules in
    let x = c.requires.0 in
    let contained : Contains q.listing x = rw (← c.self.view_is) at c.requires.1 in
    let at = own-member e c.args.restriction q.listing x contained c.requires.3 own in
    rw c.requires.2 at (own-room q.listing q.entries q.links q.ladders c.self.invariant.queued c.args.phase e.item.side c.args.restriction e.item.kind q.adds c.self.invariant.rise on e.time x at)

pub returns-in_err-next : goal.returns-in_err-next
returns-in_err-next g c =
    let q = c.self.inside in
    let e = c.args.entry.now in
    let on : is_active c.args.phase c.args.restriction ≡ true = search rules in
    let own : c.args.restriction ≡ e.item.restriction = search rules in
    let x = c.requires.0 in
    let contained : Contains q.listing x = rw (← c.self.view_is) at c.requires.1 in
    let at = own-member e c.args.restriction q.listing x contained c.requires.3 own in
    let told = λ (ends : Ends) (ahead behind : List ℕ) (queue : IsQueue q.links ends (ahead ++ x.key ∷ behind)).
    subst (λ (n : ℕ). IsQueue q.links ends (ahead ++ n ∷ behind)) c.requires.2 queue in
    rw (c.from_residual.ensures, ← c.self.view_is)
    (own-next q.listing q.entries q.links q.ladders c.self.invariant.queued c.args.phase e.item.side c.args.restriction e.item.kind q.adds c.self.invariant.rise on e.time x at (ap (λ (y : Entry Order). y.time) (sym c.requires.3)) None None
    (λ ends ahead behind queue. c.in_err-next.ensures ends ahead behind (told ends ahead behind queue)) (λ n z. absurd (some_none (sym z))) (λ z. refl))

pub returns-then-eq : goal.returns-then-eq
returns-then-eq g c =
    let q = c.self.inside in
    let e = c.args.entry.now in
    let on : is_active c.args.phase c.args.restriction ≡ true = search rules in
    let own : c.args.restriction ≡ e.item.restriction = search rules in
    let x = c.requires.0 in
    let contained : Contains q.listing x = rw (← c.self.view_is) at c.requires.1 in
    let at = own-member e c.args.restriction q.listing x contained c.requires.3 own in
    let told = λ (ends : Ends) (ahead behind : List ℕ) (queue : IsQueue q.links ends (ahead ++ x.key ∷ behind)).
    subst (λ (n : ℕ). IsQueue q.links ends (ahead ++ n ∷ behind)) c.requires.2 queue in
    rw (← c.self.view_is)
    (own-next q.listing q.entries q.links q.ladders c.self.invariant.queued c.args.phase e.item.side c.args.restriction e.item.kind q.adds c.self.invariant.rise on e.time x at (ap (λ (y : Entry Order). y.time) (sym c.requires.3)) (Some c.in_ok-next.next) (option_copied c.get.result)
    (λ ends ahead behind queue. c.in_ok-next.ensures ends ahead behind (told ends ahead behind queue)) (λ n z. c.get.ensures ∙ ap (get q.entries) (same_some z)) (λ z. absurd (some_none z)))
