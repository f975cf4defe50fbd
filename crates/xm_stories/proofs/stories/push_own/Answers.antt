use Rattle.std.proofs.Common.{◌++◌, ◌∷◌, [], List, filter, ◌==◌, append_assoc, sym, ap, subst, ◌∙◌}
use Rattle.std.proofs.lemmas.Result.{on_ok_weaker}
use Rattle.xm_events.specs.SeenStory.{seen_own}
use Rattle.xm_events.specs.Story.{leave_events}
use Rattle.xm_events.specs.declared.events.Event.{Event}
use Rattle.xm_events.specs.declared.events.Event.TheVariants.{Began}
use Rattle.xm_events.specs.declared.events.Deletion.TheVariants.{EndOfDay}
use Rattle.std.specs.Prelude.{Some}
use Rattle.xm_rules.specs.Orders.{is_named, is_stop_named}
use Rattle.xm_rules.specs.declared.commands.Command.{Command}
use Rattle.xm_rules.specs.declared.orders.Order.{Order}
use Rattle.xm_rules.specs.declared.orders.Stop.{Stop}
use Rattle.xm_rules.specs.declared.phases.Phase.TheVariants.{Ended}
use Rattle.xm_stories.specs.Around.{IsTouched, between_of, gone_for, outcome_in}
use Rattle.xm_stories.proofs.Retelling.{leaving_orders, leaving_stops}
use Rattle.xm_stories.proofs.stories.push_own.Goals as goal

pub returns-in_ok-push_touched-in-EndDay : goal.returns-in_ok-push_touched-in-EndDay
returns-in_ok-push_touched-in-EndDay g c =
    on_ok_weaker c.push_began.result
    (λ began s b.
    (let old = c.args.events.now.items in
    let o = outcome_in (between_of c.args.before.now c.args.after.now) in
    let left = leave_events (gone_for (Some EndOfDay)) (leaving_orders s) (leaving_stops s) in
    let touched = subst (λ (d : Command). IsTouched s d c.args.before.now.touched) c.in-EndDay.is b.touched in
    began ∙ ap (λ (xs : List Event). xs ++ Began Ended ∷ []) (c.in_ok-push_touched-in-EndDay.ensures (leaving_orders s) (leaving_stops s) touched)
    ∙ append_assoc old left (Began Ended ∷ [])
    ∙ ap (λ (d : Command). old ++ seen_own o s d c.args.trades.now c.args.after.now.phase) (sym c.in-EndDay.is)))
    c.push_began.ensures

pub returns-in-Cancel : goal.returns-in-Cancel
returns-in-Cancel g c =
    on_ok_weaker c.push_touched.result
    (λ told s b.
    (let o = outcome_in (between_of c.args.before.now c.args.after.now) in
    let touched = subst (λ (d : Command). IsTouched s d c.args.before.now.touched) c.in-Cancel.is b.touched in
    told (filter (is_named c.in-Cancel.member c.in-Cancel.reference) s.orders) (filter (is_stop_named c.in-Cancel.member c.in-Cancel.reference) s.stops) touched
    ∙ ap (λ (d : Command). c.args.events.now.items ++ seen_own o s d c.args.trades.now c.args.after.now.phase) (sym c.in-Cancel.is)))
    c.push_touched.ensures

pub returns-in-CancelAll : goal.returns-in-CancelAll
returns-in-CancelAll g c =
    on_ok_weaker c.push_touched-in-CancelAll.result
    (λ told s b.
    (let o = outcome_in (between_of c.args.before.now c.args.after.now) in
    let member = c.in-CancelAll.member in
    let touched = subst (λ (d : Command). IsTouched s d c.args.before.now.touched) c.in-CancelAll.is b.touched in
    told (filter (λ (o : Order). o.member == member) s.orders) (filter (λ (stop : Stop). stop.member == member) s.stops) touched
    ∙ ap (λ (d : Command). c.args.events.now.items ++ seen_own o s d c.args.trades.now c.args.after.now.phase) (sym c.in-CancelAll.is)))
    c.push_touched-in-CancelAll.ensures
