use Rattle.std.proofs.Common.{◌≡◌, ◌∙◌, ◌++◌, ◌∷◌, [], drop, rules, sym, ap, subst}
use Rattle.std.specs.List.{slice_get}
use Rattle.xm_desk.proofs.Turning.{Ends, Turns, ends, next-can-come, turns}
use Rattle.xm_desk.specs.Incoming.{CanComeIn}
use Rattle.xm_desk.specs.Made.{Makes}
use Rattle.xm_desk.specs.Settled.{Unsettled, place_of_stop, places_in}
use Rattle.xm_desk.specs.declared.unsettled.Ready.TheVariants.{ForOrder, Used}
use Rattle.xm_events.specs.Seen.{seen_after}
use Rattle.xm_events.specs.Story.{come_events}
use Rattle.xm_rules.specs.Settling.{come, order_of_stop}
use Rattle.xm_rules.specs.declared.orders.Order.{Order}
use Rattle.xm_desk.proofs.unsettled.Unsettled.settle_next.Given.{Over}
use Rattle.xm_desk.proofs.unsettled.Unsettled.settle_next.Goals as goal

pub next_pending-requires : goal.next_pending-requires
next_pending-requires g c = ap (λ (v : Unsettled). places_in v.ready) c.take_reached.ensures ∙ c.requires.ready

pub come-requires : goal.come-requires
come-requires g c =
    let u = c.args.self.now in
    let v = c.take_reached.new.self in
    let stop = c.in-Some.stop in
    let first = ap (λ (x : Unsettled). slice_get x.pending 0) (sym c.take_reached.ensures) ∙ sym c.next_pending.ensures.first ∙ c.in-Some.is in
    let next : c.next_pending.new.self ≡ record v { pending = drop 1 v.pending; ready = ForOrder (place_of_stop stop); seen = record v.seen { triggered = v.seen.triggered ++ stop ∷ [] } } = search rules in
    let before = next ∙ ap (λ (x : Unsettled). let w : Unsettled = record x { pending = drop 1 x.pending; ready = ForOrder (place_of_stop stop); seen = record x.seen { triggered = x.seen.triggered ++ stop ∷ [] } } in w) c.take_reached.ensures in
    subst (λ (o : Order). CanComeIn c.next_pending.new.self o) (sym c.order_of_stop.ensures)
    (subst (λ (x : Unsettled). CanComeIn x (order_of_stop stop)) (sym before) (next-can-come u c.requires stop first))

-- none was pending
ended : (g : Over) (c : goal.In-None g) → Ends c.args.self.now c.next_pending.new.self
ended g c =
    let same : c.next_pending.new.self ≡ c.take_reached.new.self = search rules in
    ends c.args.self.now c.take_reached.new.self c.next_pending.new.self c.requires c.take_reached.ensures (sym c.next_pending.ensures.first ∙ c.in-None.is) same

pub returns-in-None-clause-none : goal.returns-in-None-clause-none
returns-in-None-clause-none g c = λ e. (ended g c).after

pub returns-in-None-clause-standing : goal.returns-in-None-clause-standing
returns-in-None-clause-standing g c = (ended g c).standing

pub returns-in-None-clause-made : goal.returns-in-None-clause-made
returns-in-None-clause-made g c = (ended g c).made

-- the first one came in
turned : (g : Over) (c : goal.After-come g) → Turns c.args.self.now c.come.new.self
turned g c =
    let u = c.args.self.now in
    let v = c.take_reached.new.self in
    let stop = c.in-Some.stop in
    let first = ap (λ (x : Unsettled). slice_get x.pending 0) (sym c.take_reached.ensures) ∙ sym c.next_pending.ensures.first ∙ c.in-Some.is in
    let next : c.next_pending.new.self ≡ record v { pending = drop 1 v.pending; ready = ForOrder (place_of_stop stop); seen = record v.seen { triggered = v.seen.triggered ++ stop ∷ [] } } = search rules in
    let before = next ∙ ap (λ (x : Unsettled). let w : Unsettled = record x { pending = drop 1 x.pending; ready = ForOrder (place_of_stop stop); seen = record x.seen { triggered = x.seen.triggered ++ stop ∷ [] } } in w) c.take_reached.ensures in
    let n = c.next_pending.new.self in
    let after =
    c.come.ensures.come ∙ ap (λ (o : Order). let w : Unsettled = record n { state = come n.state o; ready = Used; seen = seen_after n.seen (come_events n.state o) } in w) c.order_of_stop.ensures
    ∙ ap (λ (x : Unsettled). let w : Unsettled = record x { state = come x.state (order_of_stop stop); ready = Used; seen = seen_after x.seen (come_events x.state (order_of_stop stop)) } in w) before in
    turns u c.requires stop first c.come.new.self after (subst (λ (x : Unsettled). Makes x c.come.new.self) before c.come.ensures.made)

pub returns-in-Some-clause-fewer : goal.returns-in-Some-clause-fewer
returns-in-Some-clause-fewer g c = λ e. (turned g c).fewer

pub returns-in-Some-clause-same : goal.returns-in-Some-clause-same
returns-in-Some-clause-same g c = λ e. (turned g c).same

pub returns-in-Some-clause-told : goal.returns-in-Some-clause-told
returns-in-Some-clause-told g c = λ e. (turned g c).told

pub returns-in-Some-clause-standing : goal.returns-in-Some-clause-standing
returns-in-Some-clause-standing g c = (turned g c).standing

pub returns-in-Some-clause-made : goal.returns-in-Some-clause-made
returns-in-Some-clause-made g c = (turned g c).made
